use Rattle.std.proofs.Common.{refl, ◌∙◌, ◌+◌, length, ap, sym, subst, arith}
use denote.Exit.{no}
use denote.Param.Send.{param_send, arg_send}
use Rattle.voice_store.specs.Shown.{history_of}
use Rattle.voice_server.proofs.Moving.{standing_send}
use Rattle.voice_server.proofs.Keeping.{kept_on, legal_from, same_origin}
use Rattle.voice_server.proofs.Adds.{turn_is, bounds, begins_turn, turned, answered, unanswered, turns, Turns, all_after}
use Rattle.voice_server.proofs.server.Hall+Standing+D.call.Goals as goal

pub enter-store-requires-send-T : goal.enter-store-requires-send-T
enter-store-requires-send-T g c κs within = param_send 0 _ (arg_send _ no _ (standing_send _ g.D.Disk c.type_bounds.send-D))

pub caller-requires-send-T : goal.caller-requires-send-T
caller-requires-send-T g c κs within = param_send 0 _ (arg_send _ no _ (standing_send _ g.D.Disk c.type_bounds.send-D))

pub leave-requires-send-T : goal.leave-requires-send-T
leave-requires-send-T g c κs within = param_send 0 _ (arg_send _ no _ (standing_send _ g.D.Disk c.type_bounds.send-D))

pub gained-entries-requires-after_bounds : goal.gained-entries-requires-after_bounds
gained-entries-requires-after_bounds g c κs within =
    bounds c.caller.result _ c.args.call c.history-before.result.now (history_of c.enter-store.result.store) (history_of c.apply-reply.new.self) c.apply-reply.result c.history-before.ensures c.apply-reply.ensures.entry c.apply-reply.ensures.err

pub leave-requires-clause-value : goal.leave-requires-clause-value
leave-requires-clause-value g c κs within =
    let was = c.enter-store.ensures.value in
    let old = c.enter-store.result.store in
    let new = c.apply-reply.new.self in
    let a = c.apply-reply.ensures in
    (same_origin old new a.origin a.tapes a.pool ∙ was.0, kept_on g.D.Disk.told old new was.1 a.state a.goes a.origin)

pub leave-requires-clause-turn : goal.leave-requires-clause-turn
leave-requires-clause-turn g c κs within =
    turn_is c.enter-store.new.pass.caller c.caller.result _ c.gained-entries.result c.args.call _ (history_of c.enter-store.result.store) (history_of c.apply-reply.new.self) c.apply-reply.result c.caller.ensures c.enter-store.ensures.seen.0 c.apply-reply.ensures.entry c.apply-reply.ensures.err (sym (ap (λ l. length l + c.gained-entries.result) c.history-before.ensures) ∙ c.gained-entries.ensures)

pub returns-clause-seen : goal.returns-clause-seen
returns-clause-seen g c =
    begins_turn c.caller.result _ c.args.call _ _ (history_of c.enter-store.result.store) (history_of c.apply-reply.new.self) _ c.apply-reply.result c.enter-store.ensures.seen.1 c.enter-store.ensures.seen.0 c.leave.ensures.seen c.apply-reply.ensures.entry c.apply-reply.ensures.err

pub returns-clause-legal : goal.returns-clause-legal
returns-clause-legal g c =
    let was = c.enter-store.ensures.value in
    let old = c.enter-store.result.store in
    let new = c.apply-reply.new.self in
    let a = c.apply-reply.ensures in
    legal_from g.D.Disk.told c.args.self.now new _ (kept_on g.D.Disk.told old new was.1 a.state a.goes a.origin) (same_origin old new a.origin a.tapes a.pool ∙ was.0) c.leave.ensures.seen

pub returns-clause-ok : goal.returns-clause-ok
returns-clause-ok g c =
    let e = c.enter-store.ensures in
    let t = turned c.args.pass.now c.enter-store.new.pass c.leave.new.pass (history_of c.enter-store.result.store) (history_of c.apply-reply.new.self) c.requires.pass.0.positive e.caller e.mine e.seen.0 e.seen.1 c.leave.ensures.seen c.leave.ensures.mine in
    answered c.args.pass.now c.leave.new.pass c.args.pass.now.caller c.caller.result _ c.args.call (history_of c.enter-store.result.store) (history_of c.apply-reply.new.self) c.apply-reply.result (c.caller.ensures ∙ e.caller) t c.apply-reply.ensures.entry

pub returns-clause-err : goal.returns-clause-err
returns-clause-err g c =
    let e = c.enter-store.ensures in
    let t = turned c.args.pass.now c.enter-store.new.pass c.leave.new.pass (history_of c.enter-store.result.store) (history_of c.apply-reply.new.self) c.requires.pass.0.positive e.caller e.mine e.seen.0 e.seen.1 c.leave.ensures.seen c.leave.ensures.mine in
    unanswered c.args.pass.now c.leave.new.pass c.args.pass.now.caller (history_of c.enter-store.result.store) (history_of c.apply-reply.new.self) c.apply-reply.result t c.apply-reply.ensures.err

pub apply-reply-requires-clause-caller_most : goal.apply-reply-requires-clause-caller_most
apply-reply-requires-clause-caller_most g c κs within = let few = c.enter-store.ensures.of.few in omega (arith, c.caller.ensures)

pub returns-clause-all : goal.returns-clause-all
returns-clause-all g c =
    let e = c.enter-store.ensures in
    let old = history_of c.enter-store.result.store in
    let new = history_of c.apply-reply.new.self in
    let r = c.apply-reply.result in
    let a = c.apply-reply.ensures in
    all_after _ _ _ old new _ c.enter-store.new.pass.caller c.leave.new.pass.caller _ _ (subst (λ b. Turns b old new) (c.caller.ensures ∙ sym c.leave.ensures.caller) (turns c.caller.result _ c.args.call old new r a.entry a.err)) refl e.seen.0 c.leave.ensures.seen (sym c.leave.ensures.caller) e.all c.leave.ensures.mine
