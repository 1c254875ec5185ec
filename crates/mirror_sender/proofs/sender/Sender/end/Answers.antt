use Rattle.std.proofs.Common.{◌≡◌, inl, refl, sym, ◌∙◌, ap, subst}
use Rattle.voice_model.specs.Changes.{effect_of}
use Rattle.voice_model.specs.declared.calls.Call.{Call}
use Rattle.voice_model.specs.declared.calls.Call.TheVariants as calls
use Rattle.mirror_sender.specs.declared.sender.Sender.{Sender}
use Rattle.mirror_sender.specs.Abreast.{others_than, MayChange, HasChanged}
use Rattle.mirror_sender.proofs.Lists.{on_err}
use Rattle.mirror_sender.proofs.Noted.{none_here, may_end, end_follows, abreast_after, rest_by, sound_left}
use Rattle.mirror_sender.proofs.sender.Sender.end.Goals as goal

pub returns-in_err-change-clause-err : goal.returns-in_err-change-clause-err
returns-in_err-change-clause-err c = λ s abreast.
    let own = abreast.0 in
    let none = none_here c.args.self.now.doubt (sym c.is_some.ensures ∙ c.if-is_some.false) in
    let k = c.in_err-change.ensures.err own abreast.1.sound.told in
    on_err c.from_residual-in_err-change.result _ (own, abreast_after own c.args.tapes.now c.args.self.now c.change.new.self s abreast.1 k.0 k.1 (rest_by c.args.self.now c.change.new.self c.change.ensures.rest) (inl none))

pub returns-clause-sound : goal.returns-clause-sound
returns-clause-sound c =
    let mid = c.change.new.self in
    let rest = rest_by c.args.self.now mid c.change.ensures.rest in
    let same = c.in_ok-others.ensures ∙ ap (λ l. others_than l c.args.lane) (c.deref.ensures.value ∙ sym (ap (λ v. v.items) rest.adds)) in
    sound_left c.args.tapes.now mid (record mid { adds = c.in_ok-others.others }) c.args.lane c.change.ensures.sound refl same

pub returns-clause-ok : goal.returns-clause-ok
returns-clause-ok c = λ s may.
    let own = may.abreast.0 in
    let self = c.args.self.now in
    let mid = c.change.new.self in
    let new : Sender = record mid { adds = c.in_ok-others.others } in
    let rest = rest_by self mid c.change.ensures.rest in
    let change = subst (λ (call : Call). MayChange own c.args.tapes.now self s call) (sym c.requires.call) (may_end own c.args.tapes.now self s c.args.lane may.abreast.1 may.may) in
    let h = subst (λ (call : Call). HasChanged own self mid c.args.out.now.items c.change.new.out.items (effect_of s c.args.tapes.now call)) c.requires.call (c.in_ok-change.ensures.ok own s change) in
    let changes : HasChanged own self new c.args.out.now.items c.change.new.out.items (effect_of s c.args.tapes.now (calls.End c.args.lane)) = record { told = h.told; form = h.form; bytes = h.bytes; next = h.next } in
    end_follows own c.args.tapes.now self new s c.args.lane c.args.out.now.items c.change.new.out.items may.abreast.1 may.may may.later changes rest.shape (c.in_ok-others.ensures ∙ ap (λ l. others_than l c.args.lane) c.deref.ensures.value) rest.doubt
