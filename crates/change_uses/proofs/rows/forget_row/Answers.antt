use Rattle.std.proofs.Common.{Some}
use Rattle.voice_model.specs.declared.changes.Change.TheVariants as changes
use Rattle.change_uses.proofs.rows.forget_row.Goals as goal

pub done-requires : goal.done-requires
done-requires c =
    let r = c.requires.shown.what in
    (r, Some (changes.Forgotten c.args.class c.args.key.now), c.requires.shown.shows, c.ready_forget.ensures c.args.parts.now.interests.spare r.kept)
