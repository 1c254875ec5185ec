use Rattle.std.proofs.Common.{◌≡◌, ◌∙◌, length, map, ap, inl, inr}
use Rattle.callers.specs.Seats.{pass_of, heard_of, all_done}
use Rattle.callers.proofs.Rows.{ready_from, of_after, each_after, stopped_after, slice_back, none_ran, ready_of}
use Rattle.callers.proofs.threads.run_threads.Goals as goal

pub run_all-requires-clause-ready : goal.run_all-requires-clause-ready
run_all-requires-clause-ready g c κs within = ready_from c.args.server.now c.as_mut_slice.result.now c.line_up.new.runners.items c.args.passes.items c.as_mut_slice.ensures.value c.line_up.ensures.all c.line_up.ensures.heard c.requires.ready

pub returns-clause-of : goal.returns-clause-of
returns-clause-of g c =
    let old = c.line_up.new.runners.items in
    let new = c.run_all.new.runners in
    let long : length new ≡ length c.as_mut_slice.result.now = c.run_all.auto.runners in
    let same = slice_back c.line_up.new.runners.len new old (long ∙ ap length c.as_mut_slice.ensures.value) c.line_up.new.runners.ok.0 in
    of_after g.D.Disk.told c.args.tapes.now c.args.script.now.lines c.args.server.now c.as_mut_slice.result.now new c.hand_back-memory.new.passes.items (c.hand_back-memory.ensures.all ∙ ap (map pass_of) same) long c.run_all.ensures

pub returns-clause-each : goal.returns-clause-each
returns-clause-each g c =
    let old = c.line_up.new.runners.items in
    let new = c.run_all.new.runners in
    let long : length new ≡ length c.as_mut_slice.result.now = c.run_all.auto.runners in
    let same = slice_back c.line_up.new.runners.len new old (long ∙ ap length c.as_mut_slice.ensures.value) c.line_up.new.runners.ok.0 in
    each_after g.D.Disk.told c.args.tapes.now c.args.script.now.lines c.hand_back-memory.result c.args.server.now c.as_mut_slice.result.now new c.args.passes.items c.hand_back-memory.new.passes.items c.hand_back-memory.new.lists.items
    (ap (map pass_of) c.as_mut_slice.ensures.value ∙ c.line_up.ensures.all) (c.hand_back-memory.ensures.all ∙ ap (map pass_of) same) (c.hand_back-memory.ensures.heard ∙ ap (map heard_of) same) (c.hand_back-memory.ensures.done ∙ ap all_done same) long c.run_all.ensures

pub returns-clause-memory : goal.returns-clause-memory
returns-clause-memory g c = λ none.
    let old = c.line_up.new.runners.items in
    let new = c.run_all.new.runners in
    let long : length new ≡ length c.as_mut_slice.result.now = c.run_all.auto.runners in
    let same = slice_back c.line_up.new.runners.len new old (long ∙ ap length c.as_mut_slice.ensures.value) c.line_up.new.runners.ok.0 in
    inr (stopped_after g.D.Disk.told c.args.tapes.now c.args.script.now.lines c.hand_back-memory.result c.args.server.now c.as_mut_slice.result.now new c.args.passes.items c.hand_back-memory.new.passes.items
    (ap (map pass_of) c.as_mut_slice.ensures.value ∙ c.line_up.ensures.all) (c.hand_back-memory.ensures.all ∙ ap (map pass_of) same) (c.hand_back-memory.ensures.done ∙ ap all_done same) long c.run_all.ensures none)

pub returns-in_default-clause-of : goal.returns-in_default-clause-of
returns-in_default-clause-of g c = ready_of c.args.server.now c.args.passes.items c.none_began.result.passes.items c.none_began.ensures.passes c.requires.ready

pub returns-in_default-clause-each : goal.returns-in_default-clause-each
returns-in_default-clause-each g c = none_ran g.D.Disk.told c.args.tapes.now c.args.script.now.lines c.args.server.now c.none_began.result.memory c.args.passes.items c.none_began.result.passes.items c.none_began.result.heard.items c.none_began.ensures.memory c.none_began.ensures.passes

pub returns-in_default-clause-memory : goal.returns-in_default-clause-memory
returns-in_default-clause-memory g c = λ none. inl c.none_began.ensures.passes

pub returns-in_default-with_capacity-clause-of : goal.returns-in_default-with_capacity-clause-of
returns-in_default-with_capacity-clause-of g c = ready_of c.args.server.now c.args.passes.items c.none_began-in_default-with_capacity.result.passes.items c.none_began-in_default-with_capacity.ensures.passes c.requires.ready

pub returns-in_default-with_capacity-clause-each : goal.returns-in_default-with_capacity-clause-each
returns-in_default-with_capacity-clause-each g c = none_ran g.D.Disk.told c.args.tapes.now c.args.script.now.lines c.args.server.now c.none_began-in_default-with_capacity.result.memory c.args.passes.items c.none_began-in_default-with_capacity.result.passes.items c.none_began-in_default-with_capacity.result.heard.items c.none_began-in_default-with_capacity.ensures.memory c.none_began-in_default-with_capacity.ensures.passes

pub returns-in_default-with_capacity-clause-memory : goal.returns-in_default-with_capacity-clause-memory
returns-in_default-with_capacity-clause-memory g c = λ none. inl c.none_began-in_default-with_capacity.ensures.passes
