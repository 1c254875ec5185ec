use Rattle.std.proofs.Common.{◌≡◌, ◌≤◌, ◌∙◌, List, Some, true, length, ap, refl, sym, subst}
use Rattle.std.specs.Prelude.{IsTrue, Vec}
use Rattle.std.specs.declared.alloc.Global.{Global}
use Rattle.voice_model.specs.Image.{opened_from}
use Rattle.script_lang.specs.Shown.{Reading}
use Rattle.voice_store.specs.Shown.{Shown}
use Rattle.voice_store.specs.Shown as shown
use Rattle.turnstile.specs.Passes.{callers_of}
use Rattle.voice_server.specs.Kept.{history_of}
use Rattle.voice_server.specs.Served.{store_of}
use Rattle.served_files.specs.declared.heard.Heard.{Heard}
use Rattle.served_files.specs.Files.{AreEnough, queues_of}
use Rattle.voice_main.specs.Ran.{MadeGiving, Performed}
use Rattle.voice_main.proofs.Shares.{begun_shared, begun_fresh, made_shared, shared_enough, both_fine, each_own, each_bytes, all_of, all_ready}
use Rattle.voice_main.proofs.threads.share.Goals as goal

pub run_threads-passes-requires-clause-ready : goal.run_threads-passes-requires-clause-ready
run_threads-passes-requires-clause-ready g c κs within = all_ready c.in-Ok.made.0 1 c.in-Ok.made.1.items c.in-Ok.ensures.ok.3 (ap (λ (s : Shown g.row.D.Denot). shown.history_of s) c.in-Ok.ensures.ok.0 ∙ c.requires.fresh)

pub returns-in-Err-clause-so_far : goal.returns-in-Err-clause-so_far
returns-in-Err-clause-so_far g c =
    let same = c.in-Err.ensures.err in (
      0,
      begun_fresh g.D.Disk.told c.args.store c.args.store.origin c.closed.result.disk c.args.tapes.now c.args.script.now c.closed.result.history.items c.requires.kept refl c.requires.tapes
          (c.closed.ensures.disk ∙ ap (λ (s : Shown g.row.D.Denot). s.disk) same) (c.closed.ensures.history ∙ ap (λ (s : Shown g.row.D.Denot). shown.history_of s) same) c.requires.fresh,
    )

pub returns-clause-so_far : goal.returns-clause-so_far
returns-clause-so_far g c =
    let server = c.in-Ok.made.0 in
    let made = c.in-Ok.ensures.ok in
    let closed = c.close-store.ensures.closed in
    let same = c.close-store.ensures.same in
    let callers : callers_of server.turnstile ≡ c.args.script.now.callers = made.1 ∙ ap (λ (s : Reading). s.callers) c.script.view_is in
    let count : length c.in-Ok.made.1.items ≡ c.args.script.now.callers = made.2 ∙ ap (λ (s : Reading). s.callers) c.script.view_is in
    let fresh = ap (λ (s : Shown g.row.D.Denot). shown.history_of s) made.0 ∙ c.requires.fresh in
    let of = all_of (callers_of server.turnstile) c.args.script.now.callers (shown.history_of (store_of server)) (shown.history_of c.close-store.result) callers fresh closed.others in (
      0,
      begun_shared g.D.Disk.told c.close-store.result c.args.store.origin c.closed-2.result.disk c.args.tapes.now c.args.script.now c.run_threads-passes.result.memory c.run_threads-passes.result.heard.items c.closed-2.result.history.items c.close-store.ensures.kept
          (same.0 ∙ ap (λ (s : Shown g.row.D.Denot). s.origin) made.0) (same.1 ∙ ap (λ (s : Shown g.row.D.Denot). shown.tapes_in s) made.0 ∙ c.requires.tapes) c.closed-2.ensures.disk c.closed-2.ensures.history of
          (each_own g.D.Disk.told c.args.tapes.now c.args.script.now.lines server c.run_threads-passes.result.memory c.args.script.now.callers (length c.args.script.now.samples) history_of (shown.history_of (store_of server)) (shown.history_of c.close-store.result)
          c.in-Ok.made.1.items c.run_threads-passes.result.passes.items c.run_threads-passes.result.heard.items c.new-nothing.result c.requires.whole.lines c.run_threads-passes.ensures.each made.3 count fresh closed.passes_stand of),
    )

pub returns-clause-finished : goal.returns-clause-finished
returns-clause-finished g c = λ done.
    let server = c.in-Ok.made.0 in
    let made = c.in-Ok.ensures.ok in
    let closed = c.close-store.ensures.closed in
    let same = c.close-store.ensures.same in
    let callers : callers_of server.turnstile ≡ c.args.script.now.callers = made.1 ∙ ap (λ (s : Reading). s.callers) c.script.view_is in
    let count : length c.in-Ok.made.1.items ≡ c.args.script.now.callers = made.2 ∙ ap (λ (s : Reading). s.callers) c.script.view_is in
    let fresh = ap (λ (s : Shown g.row.D.Denot). shown.history_of s) made.0 ∙ c.requires.fresh in
    let of = all_of (callers_of server.turnstile) c.args.script.now.callers (shown.history_of (store_of server)) (shown.history_of c.close-store.result) callers fresh closed.others in
    let fine = both_fine c.run_threads-passes.result.memory c.close-store.result.wanted (sym c.closed-2.ensures.finished ∙ done) in
    let memory = fine.0 in
    let own = each_own g.D.Disk.told c.args.tapes.now c.args.script.now.lines server c.run_threads-passes.result.memory c.args.script.now.callers (length c.args.script.now.samples) history_of (shown.history_of (store_of server)) (shown.history_of c.close-store.result)
    c.in-Ok.made.1.items c.run_threads-passes.result.passes.items c.run_threads-passes.result.heard.items c.new-nothing.result c.requires.whole.lines c.run_threads-passes.ensures.each made.3 count fresh closed.passes_stand of in
    subst (λ (l : List (Vec Heard Global)). Performed c.args.tapes.now (MadeGiving true c.args.tapes.now c.args.script.now (g.D.Disk.told c.args.store.origin) (g.D.Disk.told c.closed-2.result.disk) c.closed-2.result.history.items (queues_of l)) (g.D.Disk.told c.args.store.origin) (g.D.Disk.told c.closed-2.result.disk) c.closed-2.result.history.items) (sym c.closed-2.ensures.heard)
    (made_shared g.D.Disk.told c.close-store.result c.args.store.origin c.closed-2.result.disk c.args.tapes.now c.args.script.now c.run_threads-passes.result.memory c.run_threads-passes.result.heard.items c.closed-2.result.history.items c.close-store.ensures.kept
    (same.0 ∙ ap (λ (s : Shown g.row.D.Denot). s.origin) made.0) (same.1 ∙ ap (λ (s : Shown g.row.D.Denot). shown.tapes_in s) made.0 ∙ c.requires.tapes) c.closed-2.ensures.disk c.closed-2.ensures.history of own
    (λ first honest opened. each_bytes g.D.Disk.told c.args.tapes.now c.args.script.now server c.run_threads-passes.result.memory history_of (shown.history_of (store_of server)) (shown.history_of c.close-store.result)
    c.in-Ok.made.1.items c.run_threads-passes.result.passes.items c.run_threads-passes.result.heard.items c.new-nothing.result first c.requires.whole c.run_threads-passes.ensures.each made.3 count fresh closed.passes_stand of own memory
    (subst (λ (d : g.row.D.Denot). IsTrue (g.D.Disk.told d).honest) same.0 honest) (subst (λ (d : g.row.D.Denot). opened_from (g.D.Disk.told d).bytes ≡ Some first) same.0 opened))
    memory fine.1)

pub returns-clause-enough : goal.returns-clause-enough
returns-clause-enough g c = λ done.
    let server = c.in-Ok.made.0 in
    let made = c.in-Ok.ensures.ok in
    let closed = c.close-store.ensures.closed in
    let callers : callers_of server.turnstile ≡ c.args.script.now.callers = made.1 ∙ ap (λ (s : Reading). s.callers) c.script.view_is in
    let count : length c.in-Ok.made.1.items ≡ c.args.script.now.callers = made.2 ∙ ap (λ (s : Reading). s.callers) c.script.view_is in
    let fresh = ap (λ (s : Shown g.row.D.Denot). shown.history_of s) made.0 ∙ c.requires.fresh in
    let of = all_of (callers_of server.turnstile) c.args.script.now.callers (shown.history_of (store_of server)) (shown.history_of c.close-store.result) callers fresh closed.others in
    let fine = both_fine c.run_threads-passes.result.memory c.close-store.result.wanted (sym c.closed-2.ensures.finished ∙ done) in
    let memory = fine.0 in
    subst (λ (l : List (Vec Heard Global)). AreEnough c.closed-2.result.history.items l × (length l ≤ 16)) (sym c.closed-2.ensures.heard)
    (shared_enough c.args.tapes.now c.args.script.now c.run_threads-passes.result.memory c.run_threads-passes.result.heard.items (shown.history_of c.close-store.result) c.closed-2.result.history.items c.requires.whole c.closed-2.ensures.history of
    (c.run_threads-passes.ensures.each.lists memory ∙ count)
    (each_own g.D.Disk.told c.args.tapes.now c.args.script.now.lines server c.run_threads-passes.result.memory c.args.script.now.callers (length c.args.script.now.samples) history_of (shown.history_of (store_of server)) (shown.history_of c.close-store.result)
    c.in-Ok.made.1.items c.run_threads-passes.result.passes.items c.run_threads-passes.result.heard.items c.new-nothing.result c.requires.whole.lines c.run_threads-passes.ensures.each made.3 count fresh closed.passes_stand of)
    memory)
