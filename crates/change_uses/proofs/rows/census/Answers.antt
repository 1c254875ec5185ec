use Rattle.std.proofs.Common.{sym}
use Rattle.change_uses.proofs.rows.census.Goals as goal

pub done-requires : goal.done-requires
done-requires c =
    let r = c.requires.what in
    (r, _, c.requires.shows, c.in-Ok.ensures c.args.parts.now.interests.spare r.kept (sym c.requires.shows.kept.rows))
