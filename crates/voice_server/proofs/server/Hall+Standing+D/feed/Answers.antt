use Rattle.std.proofs.Common.{refl, ◌∙◌, ◌+◌, length, ap, sym, subst}
use denote.Exit.{no}
use denote.Param.Send.{param_send, arg_send}
use Rattle.frame_pool.specs.Pool.{Identity}
use Rattle.voice_store.specs.Shown.{history_of}
use Rattle.voice_server.specs.declared.born.Born.{Born}
use Rattle.players.specs.Players.{IsOfPool}
use Rattle.voice_server.specs.Served.{feed_of}
use Rattle.voice_server.proofs.Moving.{standing_send}
use Rattle.voice_server.proofs.Keeping.{kept_on, legal_from, same_origin}
use Rattle.voice_server.proofs.Adds.{turn_is, bounds, begins_turn, turned, unanswered, turns, Turns, all_after, adds_alone, adds_nothing}
use Rattle.voice_server.proofs.Feeds.{fed, spared}
use Rattle.voice_server.proofs.server.Hall+Standing+D.feed.Goals as goal

pub enter-store-requires-send-T : goal.enter-store-requires-send-T
enter-store-requires-send-T g c κs within = param_send 0 _ (arg_send _ no _ (standing_send _ g.D.Disk c.type_bounds.send-D))

pub caller-requires-send-T : goal.caller-requires-send-T
caller-requires-send-T g c κs within = param_send 0 _ (arg_send _ no _ (standing_send _ g.D.Disk c.type_bounds.send-D))

pub leave-requires-send-T : goal.leave-requires-send-T
leave-requires-send-T g c κs within = param_send 0 _ (arg_send _ no _ (standing_send _ g.D.Disk c.type_bounds.send-D))

pub feed_player-reply-requires-clause-pool : goal.feed_player-reply-requires-clause-pool
feed_player-reply-requires-clause-pool g c κs within =
    subst (λ (pool : Identity). IsOfPool pool c.args.player.now.lease) (ap (λ (b : Born _). b.pool) (sym c.enter-store.ensures.value.0)) c.requires.player

pub gained-entries-requires-after_bounds : goal.gained-entries-requires-after_bounds
gained-entries-requires-after_bounds g c κs within =
    let old = history_of c.enter-store.result.store in
    let new = history_of c.feed_player-reply.new.store in
    let r = c.feed_player-reply.result in
    let a = c.feed_player-reply.ensures in
    bounds c.caller.result _ (feed_of c.args.player.now) c.history-before.result.now old new r c.history-before.ensures (adds_alone _ _ _ old new r a.entry) (adds_nothing old new r a.err)

pub leave-requires-clause-value : goal.leave-requires-clause-value
leave-requires-clause-value g c κs within =
    let was = c.enter-store.ensures.value in
    let old = c.enter-store.result.store in
    let new = c.feed_player-reply.new.store in
    let a = c.feed_player-reply.ensures in
    (same_origin old new a.same.0 a.same.1 a.same.2 ∙ was.0, kept_on g.D.Disk.told old new was.1 a.state a.goes a.same.0)

pub leave-requires-clause-turn : goal.leave-requires-clause-turn
leave-requires-clause-turn g c κs within =
    let old = history_of c.enter-store.result.store in
    let new = history_of c.feed_player-reply.new.store in
    let r = c.feed_player-reply.result in
    let a = c.feed_player-reply.ensures in
    turn_is c.enter-store.new.pass.caller c.caller.result _ c.gained-entries.result (feed_of c.args.player.now) _ old new r c.caller.ensures c.enter-store.ensures.seen.0 (adds_alone _ _ _ old new r a.entry) (adds_nothing old new r a.err) (sym (ap (λ l. length l + c.gained-entries.result) c.history-before.ensures) ∙ c.gained-entries.ensures)

pub returns-clause-player : goal.returns-clause-player
returns-clause-player g c =
    subst (λ (pool : Identity). IsOfPool pool c.feed_player-reply.new.player.lease) (ap (λ (b : Born _). b.pool) c.enter-store.ensures.value.0) c.feed_player-reply.ensures.player

pub returns-clause-seen : goal.returns-clause-seen
returns-clause-seen g c =
    let old = history_of c.enter-store.result.store in
    let new = history_of c.feed_player-reply.new.store in
    let r = c.feed_player-reply.result in
    let a = c.feed_player-reply.ensures in
    begins_turn c.caller.result _ (feed_of c.args.player.now) _ _ old new _ r c.enter-store.ensures.seen.1 c.enter-store.ensures.seen.0 c.leave.ensures.seen (adds_alone _ _ _ old new r a.entry) (adds_nothing old new r a.err)

pub returns-clause-legal : goal.returns-clause-legal
returns-clause-legal g c =
    let was = c.enter-store.ensures.value in
    let old = c.enter-store.result.store in
    let new = c.feed_player-reply.new.store in
    let a = c.feed_player-reply.ensures in
    legal_from g.D.Disk.told c.args.self.now new _ (kept_on g.D.Disk.told old new was.1 a.state a.goes a.same.0) (same_origin old new a.same.0 a.same.1 a.same.2 ∙ was.0) c.leave.ensures.seen

pub returns-clause-ok : goal.returns-clause-ok
returns-clause-ok g c =
    let e = c.enter-store.ensures in
    let a = c.feed_player-reply.ensures in
    let t = turned c.args.pass.now c.enter-store.new.pass c.leave.new.pass (history_of c.enter-store.result.store) (history_of c.feed_player-reply.new.store) c.requires.pass.0.positive e.caller e.mine e.seen.0 e.seen.1 c.leave.ensures.seen c.leave.ensures.mine in
    fed g.D.Disk.told c.args.self.now c.args.player.now c.feed_player-reply.new.player c.args.pass.now c.leave.new.pass c.enter-store.result.store (history_of c.feed_player-reply.new.store) c.args.pass.now.caller c.caller.result _ c.feed_player-reply.result (c.caller.ensures ∙ e.caller) t e.value.1 e.value.0 a.entry a.lane a.window a.hinted a.samples

pub returns-clause-err : goal.returns-clause-err
returns-clause-err g c =
    let e = c.enter-store.ensures in
    let a = c.feed_player-reply.ensures in
    let old = history_of c.enter-store.result.store in
    let new = history_of c.feed_player-reply.new.store in
    let t = turned c.args.pass.now c.enter-store.new.pass c.leave.new.pass old new c.requires.pass.0.positive e.caller e.mine e.seen.0 e.seen.1 c.leave.ensures.seen c.leave.ensures.mine in
    spared _ c.args.player.now c.feed_player-reply.new.player c.feed_player-reply.result (unanswered c.args.pass.now c.leave.new.pass c.args.pass.now.caller old new c.feed_player-reply.result t (adds_nothing old new c.feed_player-reply.result a.err)) a.spared

pub returns-clause-all : goal.returns-clause-all
returns-clause-all g c =
    let e = c.enter-store.ensures in
    let old = history_of c.enter-store.result.store in
    let new = history_of c.feed_player-reply.new.store in
    let r = c.feed_player-reply.result in
    let a = c.feed_player-reply.ensures in
    all_after _ _ _ old new _ c.enter-store.new.pass.caller c.leave.new.pass.caller _ _ (subst (λ b. Turns b old new) (c.caller.ensures ∙ sym c.leave.ensures.caller) (turns c.caller.result _ (feed_of c.args.player.now) old new r (adds_alone _ _ _ old new r a.entry) (adds_nothing old new r a.err))) refl e.seen.0 c.leave.ensures.seen (sym c.leave.ensures.caller) e.all c.leave.ensures.mine
