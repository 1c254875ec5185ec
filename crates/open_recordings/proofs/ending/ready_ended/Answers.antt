use Rattle.std.proofs.Common.{◌≡◌, sym, ◌∙◌, ap, subst, arith}
use Rattle.voice_units.specs.Spots.{spots_from, pieces_of, samples_in}
use Rattle.voice_blocks.specs.Holders.{Holders}
use Rattle.voice_blocks.specs.declared.owner.Owner.TheVariants.{Taking}
use Rattle.voice_units.specs.Blocks.{blocks_for}
use Rattle.voice_model.specs.Spelling.{keeps_grammar, spelling}
use Rattle.next_ropes.specs.Ready.{recorded_change}
use Rattle.next_ropes.proofs.Readied.{recorded_samples}
use Rattle.open_recordings.specs.Blocks.{AreAddresses}
use Rattle.open_recordings.proofs.Listed.{held_differ}
use Rattle.open_recordings.proofs.Readied.{still_taken, has_all, all_grammar, ending_ready}
use Rattle.open_recordings.proofs.ending.ready_ended.Goals as goal

pub ended_recording-requires-clause-blocks : goal.ended_recording-requires-clause-blocks
ended_recording-requires-clause-blocks c =
    let old = c.args.parts.now in
    let by = c.requires.parts in
    let b = by.what in
    let shape = c.args.shape.now in
    let lane = c.args.lane in
    let len = c.args.len in
    let count = c.blocks_needed-count.result in
    let room = c.make_room.new.parts in
    let runs = c.make_room.ensures.same by.held by.takings b by.runs in
    let next = by.runs.kept.next in
    let number = c.requires.number in
    let all = has_all by.held by.takings room b shape lane len count (still_taken shape lane len old room by c.make_room.ensures.same) runs (omega (arith, next, number)) c.requires.most c.blocks_needed-count.ensures in (
      all.list,
      all.listed,
      ap (λ n. keeps_grammar (recorded_change room.form room.next n all.list)) (recorded_samples old.next len c.in_ok-pieces.pieces c.in_ok-pieces.ensures)
          ∙ ap (λ i. keeps_grammar (recorded_change room.form i len all.list)) runs.kept.next
          ∙ ap (λ f. keeps_grammar (recorded_change f b.next len all.list)) runs.in_form
          ∙ all_grammar by.held by.takings room b lane len count all,
    )

pub returns-clause-ready : goal.returns-clause-ready
returns-clause-ready c = λ held takings b h limit s blocks.
    let old = c.args.parts.now in
    let by = c.requires.parts in
    let shape = c.args.shape.now in
    let lane = c.args.lane in
    let len = c.args.len in
    let count = c.blocks_needed-count.result in
    let room = c.make_room.new.parts in
    let runs = c.make_room.ensures.same held takings b h in
    let before = h.kept.next in
    let most = c.requires.number in
    let all = has_all held takings room b shape lane len count (still_taken shape lane len old room by c.make_room.ensures.same) runs (omega (arith, before, most)) c.requires.most c.blocks_needed-count.ensures in
    let next = c.in_ok-next.next in
    let known = c.in_ok-next.ensures in
    let listed : next.addresses.items ≡ all.list = known.addresses all.list all.listed in
    let samples : samples_in c.in_ok-pieces.pieces ≡ len = recorded_samples old.next len c.in_ok-pieces.pieces c.in_ok-pieces.ensures in
    ending_ready held takings room b lane len count all next limit (known.id ∙ runs.kept.next) known.recorded
    (known.pieces ∙ c.in_ok-pieces.ensures ∙ ap (λ i. pieces_of (spots_from i 0 len)) h.kept.next)
    (ap samples_in known.pieces ∙ samples) listed
    (known.payload ∙ ap (λ n. spelling (recorded_change room.form room.next n next.addresses.items)) samples
    ∙ ap (λ l. spelling (recorded_change room.form room.next len l)) listed
    ∙ ap (λ i. spelling (recorded_change room.form i len all.list)) runs.kept.next
    ∙ ap (λ f. spelling (recorded_change f b.next len all.list)) runs.in_form)
    c.in_ok-make_room.ensures.spare_ropes c.in_ok-make_room.ensures.spare_pairs c.in_ok-make_room.ensures.few

pub returns-clause-own : goal.returns-clause-own
returns-clause-own c =
    let old = c.args.parts.now in
    let by = c.requires.parts in
    let b = by.what in
    let shape = c.args.shape.now in
    let lane = c.args.lane in
    let len = c.args.len in
    let count = c.blocks_needed-count.result in
    let room = c.make_room.new.parts in
    let runs = c.make_room.ensures.same by.held by.takings b by.runs in
    let next = by.runs.kept.next in
    let number = c.requires.number in
    let all = has_all by.held by.takings room b shape lane len count (still_taken shape lane len old room by c.make_room.ensures.same) runs (omega (arith, next, number)) c.requires.most c.blocks_needed-count.ensures in
    let items = c.in_ok-next.next.addresses.items in
    let listed : items ≡ all.list = c.in_ok-next.ensures.addresses all.list all.listed in
    subst (λ (l : Holders). AreAddresses l (Taking lane) 0 (blocks_for shape.block len) items) c.make_room.ensures.holders
    (subst (λ n. AreAddresses room.blocks.holders (Taking lane) 0 n items) c.blocks_needed-count.ensures (subst (AreAddresses room.blocks.holders (Taking lane) 0 count) (sym listed) all.listed))

pub returns-clause-addresses : goal.returns-clause-addresses
returns-clause-addresses c =
    let own = returns-clause-own c in
    (own.many, held_differ c.args.parts.now.blocks.holders (Taking c.args.lane) 0 c.in_ok-next.next.addresses.items own.each)
