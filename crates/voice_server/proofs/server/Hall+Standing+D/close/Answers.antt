use Rattle.std.proofs.Common.{List, sym, subst}
use denote.Exit.{no}
use denote.Param.Send.{param_send, arg_send}
use Rattle.voice_model.specs.declared.calls.Entry.{Entry}
use Rattle.voice_server.specs.Served.{IsClosed}
use Rattle.voice_server.proofs.Keeping.{kept_still}
use Rattle.voice_server.proofs.Moving.{standing_send}
use Rattle.voice_server.proofs.server.Hall+Standing+D.close.Goals as goal

pub close-store-requires-send-T : goal.close-store-requires-send-T
close-store-requires-send-T g c κs within = param_send 0 _ (arg_send _ no _ (standing_send _ g.D.Disk c.type_bounds.send-D))

pub returns-clause-kept : goal.returns-clause-kept
returns-clause-kept g c =
    let a = c.take_windows.ensures in
    kept_still g.D.Disk.told c.close-store.result.store c.take_windows.new.store a.state a.same.0 a.same.1 c.close-store.ensures.value.1

pub returns-clause-closed : goal.returns-clause-closed
returns-clause-closed g c =
    let value = c.close-store.ensures.value in
    subst (λ (h : List Entry). IsClosed c.args.self c.args.passes.items h) (sym c.take_windows.ensures.history)
    (record { begins = value.2; passes_stand = c.close-store.ensures.passes; others = value.3 })
