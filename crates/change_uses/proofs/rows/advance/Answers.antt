use Rattle.change_uses.proofs.rows.advance.Goals as goal

pub done-requires : goal.done-requires
done-requires c =
    let r = c.requires.what in
    (r, _, c.requires.shows, c.ready_advance-ready.ensures c.args.parts.now.interests.spare r.kept)
