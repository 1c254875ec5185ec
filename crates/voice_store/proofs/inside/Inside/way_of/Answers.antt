use Rattle.std.proofs.Common.{◌≡◌, ◌+◌, ◌≤◌, sym, ◌∙◌, ap, subst}
use Rattle.voice_model.specs.Changes.{base_size, changed}
use Rattle.row_calls.specs.Asked.{Grows}
use Rattle.row_calls.specs.declared.outcomes.Growth.{Growth}
use Rattle.voice_store.proofs.Altered.{weighed_now}
use Rattle.voice_store.proofs.inside.Inside.way_of.Goals as goal

pub returns-in-By-clause-way : goal.returns-in-By-clause-way
returns-in-By-clause-way c =
    λ b change s effect w grows.
    let base = weighed_now c.args.self.now b c.args.next.now change s effect w c.parts_size-base.result c.parts_size-base.ensures.size in
    let more = subst (λ (x : Growth). Grows s effect x) c.in-By.is grows in
    c.way.ensures s effect w.seated base (c.frame_of-frame.ensures ∙ sym w.frame) (ap (λ n. c.parts_size-base.result + n) c.from.ensures ∙ ap (λ n. n + c.in-By.more) base ∙ sym more)

pub returns-in-Some-clause-way : goal.returns-in-Some-clause-way
returns-in-Some-clause-way c =
    λ b change s effect w grows.
    let base = weighed_now c.args.self.now b c.args.next.now change s effect w c.parts_size-base.result c.parts_size-base.ensures.size in
    let less = subst (λ (x : Growth). Grows s effect x) c.in-NotLonger.is grows in
    c.in-Some.ensures.way s effect w.seated base (c.frame_of-frame.ensures ∙ sym w.frame) (subst (λ n. base_size s.form (changed s.form s.kept effect) ≤ n) (sym base) less)

pub returns-in_ok-need-in-NotLonger-clause-way : goal.returns-in_ok-need-in-NotLonger-clause-way
returns-in_ok-need-in-NotLonger-clause-way c =
    λ b change s effect w grows.
    let base = weighed_now c.args.self.now b c.args.next.now change s effect w c.parts_size-base.result c.parts_size-base.ensures.size in
    c.way-in-NotLonger.ensures s effect w.seated base (c.frame_of-frame.ensures ∙ sym w.frame) (c.in_ok-need-in-NotLonger.ensures b change s effect w)
