use Rattle.std.proofs.Common.{◌++◌, ◌∷◌, [], List, sym, subst}
use Rattle.voice_model.specs.declared.calls.Row.{Row}
use Rattle.collector.specs.Due.{AreKept}
use Rattle.collector.proofs.Tried.{row_comes}
use Rattle.rope_uses.proofs.collections.keep_rope.Goals as goal

pub returns-in-Ok : goal.returns-in-Ok
returns-in-Ok c = λ all.
    subst (λ (rows : List Row). AreKept rows c.keep.new.self.ropes) (sym c.in-Ok.ensures.ok)
    (subst (AreKept (c.args.interests.now.rows ++ c.args.row ∷ [])) (sym c.keep.ensures.ropes) (row_comes c.args.interests.now.rows c.args.row c.args.table.now.ropes all))
