use Rattle.std.proofs.Common.{ℕ, sym, subst}
use Rattle.voice_model.specs.declared.calls.Call.TheVariants as calls
use Rattle.voice_model.specs.declared.calls.Reply.TheVariants as replies
use Rattle.voice_store.specs.Stood.{last_of, tapes_of}
use Rattle.voice_store.specs.Facts.{Stays}
use Rattle.voice_store.proofs.Refused.{length_stays}
use Rattle.voice_store.proofs.inside.Inside.tell.Goals as goal

pub returns-clause-stood : goal.returns-clause-stood
returns-clause-stood g c =
    λ first t0 stood is.
    let s = c.args.self.now in
    let honest = (g.D.Disk.told c.args.disk.now).honest in
    c.note.ensures.stood first t0 stood
    (subst (λ (n : ℕ). Stays honest (last_of first s) (tapes_of s) c.args.caller (calls.Length c.args.rope) (replies.Number n)) (sym c.from.ensures)
    (length_stays honest (last_of first s) (tapes_of s) c.args.caller c.args.rope c.args.len is))
