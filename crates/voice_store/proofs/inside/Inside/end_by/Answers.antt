use Rattle.std.proofs.Common.{ℕ, ◌∙◌, refl, sym, ap, subst}
use Rattle.voice_blocks.specs.Holders.{Holders}
use Rattle.voice_units.specs.Spots.{spots_from, pieces_of}
use Rattle.voice_model.specs.State.{State}
use Rattle.next_ropes.specs.Addresses.{KeepsAddresses}
use Rattle.next_ropes.specs.Ready.{next_change}
use Rattle.voice_store.specs.Stood.{last_of}
use Rattle.voice_store.specs.Ends.{EndsSo, HoldsEnding, ended_by}
use Rattle.voice_store.proofs.Kept.{is_sure, same_parts, same_shape, stood_few as held_few}
use Rattle.voice_store.proofs.Filled.{same_addresses}
use Rattle.voice_store.proofs.Endable.{blocks_now, holding}
use Rattle.voice_store.proofs.Ended.{ending_more, ending_ready, ending_going}
use Rattle.voice_store.proofs.inside.Inside.end_by.Given as given
use Rattle.voice_store.proofs.inside.Inside.end_by.Goals as goal
use Rattle.voice_store.proofs.inside.Inside.end_by.Goals.{In_ok-rope}

-- its rope is ready
abbrev holds : (g : given.Over) (c : In_ok-rope g) (first : State) (t0 : ℕ) → EndsSo first t0 (g.D.Disk.told c.args.disk.now) c.args.self.now c.args.lane c.args.way
    → HoldsEnding first t0 (g.D.Disk.told c.args.disk.now) (record c.args.self.now { parts = c.ready_ended.new.parts }) c.args.lane c.in_ok-rope.rope
holds g c first t0 way =
    let s = c.args.self.now in
    let disk = g.D.Disk.told c.args.disk.now in
    let stood = way.ends.stood in
    let total = c.total-len.ensures.shown (last_of first s) stood.playing.recorded in
    let ready = c.in_ok-rope.ensures.ready stood.held stood.takings stood.b (is_sure first t0 disk s stood way.ends.sure).tables (held_few first t0 disk s stood) (same_shape first t0 disk s stood way.ends.sure ∙ sym c.shape-shape.ensures)
    (blocks_now first t0 disk s c.args.lane way.ends c.shape-shape.result c.total-len.result c.shape-shape.ensures total) in
    holding first t0 disk s c.args.lane c.args.way way c.ready_ended.new.parts c.in_ok-rope.rope ready
    (same_addresses s.parts.blocks.holders c.ready_ended.new.parts.blocks.holders c.in_ok-rope.ensures.holders) c.in_ok-rope.ensures.addresses.1 (c.in_ok-rope.ensures.pieces ∙ ap (λ n. pieces_of (spots_from c.in_ok-rope.rope.id 0 n)) total)

pub ready_ended-requires-clause-parts : goal.ready_ended-requires-clause-parts
ready_ended-requires-clause-parts g c =
    let way = c.requires.way in
    let s = c.args.self.now in
    let disk = g.D.Disk.told c.args.disk.now in
    let stood = way.2.ends.stood in
    record {
      held = stood.held;
      takings = stood.takings;
      what = stood.b;
      runs = (is_sure way.0 way.1 disk s stood way.2.ends.sure).tables;
      in_shape = same_shape way.0 way.1 disk s stood way.2.ends.sure ∙ sym c.shape-shape.ensures;
      blocks = blocks_now way.0 way.1 disk s c.args.lane way.2.ends c.shape-shape.result c.total-len.result c.shape-shape.ensures (c.total-len.ensures.shown (last_of way.0 s) stood.playing.recorded);
    }

pub returns-in_err-rope-clause-stood : goal.returns-in_err-rope-clause-stood
returns-in_err-rope-clause-stood g c = λ first t0 way.
    let s = c.args.self.now in
    let disk = g.D.Disk.told c.args.disk.now in
    let stood = way.ends.stood in
    same_parts first t0 disk s stood way.ends.sure c.ready_ended.new.parts
    (c.in_err-rope.ensures.same stood.held stood.takings stood.b (is_sure first t0 disk s stood way.ends.sure).tables)
    (same_addresses s.parts.blocks.holders c.ready_ended.new.parts.blocks.holders c.in_err-rope.ensures.holders)

pub plan-requires : goal.plan-requires
plan-requires g c = let way = c.requires.way in ending_going _ _ _ _ _ _ (holds g (goal.at.plan-requires g c).In_ok-rope way.0 way.1 way.2)

pub give_up-requires : goal.give_up-requires
give_up-requires g c =
    let way = c.requires.way in
    (c.args.self.now.journal.shape, ending_going _ _ _ _ _ _ (holds g (goal.at.give_up-requires g c).In_ok-rope way.0 way.1 way.2))

pub returns-in_default-clause-stood : goal.returns-in_default-clause-stood
returns-in_default-clause-stood g c = λ first t0 way.
    let s = c.args.self.now in
    let stood = way.ends.stood in
    let h = holds g (goal.at.returns-in_default-clause-stood g c).In_ok-rope first t0 way in
    same_parts first t0 (g.D.Disk.told c.args.disk.now) s stood way.ends.sure c.give_up.new.parts
    (c.give_up.ensures.tables stood.held stood.takings (ending_more _ _ _ _ _ _ h) stood.b (next_change stood.b.form c.in_ok-rope.rope) (ending_ready _ _ _ _ _ _ h))
    (subst (λ (hs : Holders). KeepsAddresses hs c.give_up.new.parts.blocks.holders) c.in_ok-rope.ensures.holders c.give_up.ensures.kept)

pub write_and_close-requires-clause-holds : goal.write_and_close-requires-clause-holds
write_and_close-requires-clause-holds g c κs within =
    let first = c.requires.way.0 in
    let t0 = c.requires.way.1 in
    let way = c.requires.way.2 in
    let s = c.args.self.now in
    let stood = way.ends.stood in
    let last = last_of first s in
    let rope = c.in_ok-rope.rope in
    let h = holds g (goal.at.write_and_close-requires-clause-holds g c).In_ok-rope first t0 way in (
      rope,
      refl,
      first,
      t0,
      record {
        holds = h;
        is_last = c.deref.ensures.value ∙ c.in_ok-last.ensures last stood.playing.recorded;
        planned = c.in-Ok.ensures.planned stood.held stood.takings (ending_more _ _ _ _ _ _ h) stood.b (next_change stood.b.form rope) last (ended_by last c.args.lane)
            (ending_ready _ _ _ _ _ _ h) (same_shape first t0 (g.D.Disk.told c.args.disk.now) s stood way.ends.sure) way.goes way.free;
      },
    )

pub returns-clause-stood : goal.returns-clause-stood
returns-clause-stood g c = λ first t0 way.
    let s = c.args.self.now in
    let stood = way.ends.stood in
    let last = last_of first s in
    let rope = c.in_ok-rope.rope in
    let h = holds g (goal.at.returns-clause-stood g c).In_ok-rope first t0 way in
    c.write_and_close.ensures.stood rope refl first t0 (record {
      holds = h;
      is_last = c.deref.ensures.value ∙ c.in_ok-last.ensures last stood.playing.recorded;
      planned = c.in-Ok.ensures.planned stood.held stood.takings (ending_more _ _ _ _ _ _ h) stood.b (next_change stood.b.form rope) last (ended_by last c.args.lane)
          (ending_ready _ _ _ _ _ _ h) (same_shape first t0 (g.D.Disk.told c.args.disk.now) s stood way.ends.sure) way.goes way.free;
    })

pub returns-clause-calls : goal.returns-clause-calls
returns-clause-calls g c = λ first t0 way.
    let s = c.args.self.now in
    let stood = way.ends.stood in
    let last = last_of first s in
    let rope = c.in_ok-rope.rope in
    let h = holds g (goal.at.returns-clause-calls g c).In_ok-rope first t0 way in
    c.write_and_close.ensures.calls rope refl first t0 (record {
      holds = h;
      is_last = c.deref.ensures.value ∙ c.in_ok-last.ensures last stood.playing.recorded;
      planned = c.in-Ok.ensures.planned stood.held stood.takings (ending_more _ _ _ _ _ _ h) stood.b (next_change stood.b.form rope) last (ended_by last c.args.lane)
          (ending_ready _ _ _ _ _ _ h) (same_shape first t0 (g.D.Disk.told c.args.disk.now) s stood way.ends.sure) way.goes way.free;
    })
