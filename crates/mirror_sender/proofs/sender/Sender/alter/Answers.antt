use Rattle.std.proofs.Common.{◌≡◌, inl, refl, sym, ◌∙◌, ap, subst}
use Rattle.mirror_sender.proofs.Lists.{ok_then, err_then}
use Rattle.mirror_sender.proofs.Noted.{not_sure, none_here, only_is_changing, may_change, alter_follows, abreast_after, rest_by}
use Rattle.mirror_sender.proofs.sender.Sender.alter.Goals as goal

pub returns-then-is_some-clause-ok : goal.returns-then-is_some-clause-ok
returns-then-is_some-clause-ok c = λ s may.
    let own = may.abreast.0 in
    let self = c.args.self.now in
    let change = may_change own c.args.tapes.now self s c.args.call.now c.requires.kind may.abreast.1 may.may in
    absurd (not_sure own c.args.tapes.now self.parts.interests.spare self.doubt s.doubt may.abreast.1.doubt change.sure (sym c.is_some.ensures ∙ c.if-is_some.true))

pub change-requires-clause-kind : goal.change-requires-clause-kind
change-requires-clause-kind c = only_is_changing c.args.call.now c.requires.kind

pub change-requires-clause-sure : goal.change-requires-clause-sure
change-requires-clause-sure c = none_here c.args.self.now.doubt (sym c.is_some.ensures ∙ c.if-is_some.false)

pub returns-clause-ok : goal.returns-clause-ok
returns-clause-ok c = λ s may.
    let own = may.abreast.0 in
    let rest = rest_by c.args.self.now c.change.new.self c.change.ensures.rest in
    ok_then c.change.result _ _
    (λ changed. alter_follows own c.args.tapes.now c.args.self.now c.change.new.self s c.args.call.now c.args.out.now.items c.change.new.out.items c.requires.kind may.abreast.1 may.may may.later changed rest.shape rest.adds rest.doubt)
    (c.change.ensures.ok own s (may_change own c.args.tapes.now c.args.self.now s c.args.call.now c.requires.kind may.abreast.1 may.may))

pub returns-clause-err : goal.returns-clause-err
returns-clause-err c = λ s abreast.
    let own = abreast.0 in
    let none = none_here c.args.self.now.doubt (sym c.is_some.ensures ∙ c.if-is_some.false) in
    err_then c.change.result _ _ (λ k. (own, abreast_after own c.args.tapes.now c.args.self.now c.change.new.self s abreast.1 k.0 k.1 (rest_by c.args.self.now c.change.new.self c.change.ensures.rest) (inl none)))
    (c.change.ensures.err own abreast.1.sound.told)
