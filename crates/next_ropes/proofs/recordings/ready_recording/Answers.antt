use Rattle.std.proofs.Common.{◌≡◌, [], length, refl, sym, ◌∙◌, ap, subst, arith}
use Rattle.std.specs.List.{list_all}
use Rattle.voice_units.specs.Spots.{spots_from, pieces_of, samples_in}
use Rattle.voice_units.proofs.PiecesOfRopes.{both}
use Rattle.voice_blocks.specs.Holders.{next_index, without_owner, EachBecomes}
use Rattle.voice_blocks.specs.declared.owner.Owner.TheVariants.{File}
use Rattle.voice_model.specs.Spelling.{keeps_grammar, spelling}
use Rattle.voice_model.specs.Replay.{all_differ, is_free_address}
use Rattle.running_tables.proofs.Dropped.{given_back as tables_given_back}
use Rattle.running_tables.proofs.Taken.{first_blocks}
use Rattle.next_ropes.specs.Ready.{recorded_change}
use Rattle.next_ropes.specs.Lowest.{AreAddresses, lowest_open}
use Rattle.next_ropes.proofs.Readied.{taken, no_block_yet, recorded_samples, taken_may, taken_addresses, taken_runs, taken_grammar, recording_ready}
use Rattle.next_ropes.proofs.HandedOut.{take_hands, taken_back}
use Rattle.next_ropes.proofs.recordings.ready_recording.Goals as goal

pub take-taken-requires-clause-fits : goal.take-taken-requires-clause-fits
take-taken-requires-clause-fits c =
    let is = c.requires.parts in
    let first = ap (λ i. next_index (File i) c.make_room.new.parts.blocks.holders) is.runs.kept.next ∙ no_block_yet is.held is.takings c.make_room.new.parts is.what (c.make_room.ensures.same is.held is.takings is.what is.runs) in
    omega (arith, first)

pub held_recording-requires : goal.held_recording-requires
held_recording-requires c =
    let old = c.args.parts.now in
    let by = c.requires.parts in
    let b = by.what in
    let h = by.runs in
    let count = c.blocks_needed-count.result in
    let room = c.make_room.new.parts in
    let new = record room { blocks = c.take-taken.new.self } in
    let rooms = c.make_room.ensures.same by.held by.takings b h in
    let addresses = lowest_open count old.blocks.holders in
    let is = taken by.held by.held by.takings by.takings old room new b b c.args.shape.now count c.args.len c.take-taken.result h h by.in_shape rooms c.make_room.ensures.form c.make_room.ensures.holders
    rooms.kept refl c.blocks_needed-count.ensures c.requires.free c.requires.number c.requires.most c.take-taken.ensures.exact c.take-taken.ensures.holders in (
      addresses,
      subst (λ i. AreAddresses c.take-taken.new.self.holders i count addresses) (sym h.kept.next) (taken_addresses by.held by.takings old new b count c.args.len is),
      ap (λ n. keeps_grammar (recorded_change room.form old.next n addresses)) (recorded_samples old.next c.args.len c.in_ok-pieces.pieces c.in_ok-pieces.ensures)
          ∙ ap (λ i. keeps_grammar (recorded_change room.form i c.args.len addresses)) h.kept.next
          ∙ ap (λ f. keeps_grammar (recorded_change f b.next c.args.len addresses)) (c.make_room.ensures.form ∙ h.in_form)
          ∙ taken_grammar by.held by.takings old new b count c.args.len is,
    )

pub returns-in_default-clause-err : goal.returns-in_default-clause-err
returns-in_default-clause-err c = λ held takings b h.
    let old = c.args.parts.now in
    let by = c.requires.parts in
    let count = c.blocks_needed-count.result in
    let room = c.make_room.new.parts in
    let new = record room { blocks = c.take-taken.new.self } in
    let rooms = c.make_room.ensures.same held takings b h in
    let is = taken held by.held takings by.takings old room new b by.what c.args.shape.now count c.args.len c.take-taken.result h by.runs by.in_shape rooms c.make_room.ensures.form c.make_room.ensures.holders
    rooms.kept refl c.blocks_needed-count.ensures c.requires.free c.requires.number c.requires.most c.take-taken.ensures.exact c.take-taken.ensures.holders in
    let some = b.shape.conditions.some_block in
    tables_given_back held [] takings new (record room { blocks = c.drop_owner.new.self }) b b.next (pieces_of (spots_from b.next 0 c.args.len)) (taken_runs held takings old new b count c.args.len is)
    (record { above = omega arith; of_file = (first_blocks b.shape.block b.next c.args.len (omega (arith, some))).of_file; alone = λ pair e. cc }) rooms.kept refl
    (subst (λ i. EachBecomes (without_owner (File i)) c.take-taken.new.self.holders c.drop_owner.new.self.holders) h.kept.next c.drop_owner.ensures.holders)

pub returns-clause-ready : goal.returns-clause-ready
returns-clause-ready c = λ held takings b h limit s.
    let old = c.args.parts.now in
    let by = c.requires.parts in
    let count = c.blocks_needed-count.result in
    let room = c.make_room.new.parts in
    let new = record room { blocks = c.take-taken.new.self } in
    let rooms = c.make_room.ensures.same held takings b h in
    let next = c.in-Ok.next in
    let addresses = lowest_open count old.blocks.holders in
    let is = taken held by.held takings by.takings old room new b by.what c.args.shape.now count c.args.len c.take-taken.result h by.runs by.in_shape rooms c.make_room.ensures.form c.make_room.ensures.holders
    rooms.kept refl c.blocks_needed-count.ensures c.requires.free c.requires.number c.requires.most c.take-taken.ensures.exact c.take-taken.ensures.holders in
    let listed : next.addresses.items ≡ addresses = c.in-Ok.ensures.addresses addresses (subst (λ i. AreAddresses c.take-taken.new.self.holders i count addresses) (sym h.kept.next) (taken_addresses held takings old new b count c.args.len is)) in
    let number : next.id ≡ b.next = c.in-Ok.ensures.id ∙ h.kept.next in
    let made : next.pieces ≡ pieces_of (spots_from old.next 0 c.args.len) = c.in-Ok.ensures.pieces ∙ c.in_ok-pieces.ensures in
    let samples : samples_in c.in_ok-pieces.pieces ≡ c.args.len = recorded_samples old.next c.args.len c.in_ok-pieces.pieces c.in_ok-pieces.ensures in
    let may = taken_may held takings old new b count c.args.len is in (
      recording_ready held takings old new b count c.args.len is next limit number c.in-Ok.ensures.recorded (made ∙ ap (λ i. pieces_of (spots_from i 0 c.args.len)) h.kept.next) (ap samples_in c.in-Ok.ensures.pieces ∙ samples) listed
          (c.in-Ok.ensures.payload ∙ ap (λ n. spelling (recorded_change room.form old.next n next.addresses.items)) samples
          ∙ ap (λ l. spelling (recorded_change room.form old.next c.args.len l)) listed
          ∙ ap (λ i. spelling (recorded_change room.form i c.args.len addresses)) h.kept.next
          ∙ ap (λ f. spelling (recorded_change f b.next c.args.len addresses)) rooms.in_form)
          c.in_ok-make_room.ensures.spare_ropes c.in_ok-make_room.ensures.spare_pairs c.in_ok-make_room.ensures.few,
      ap length listed ∙ (taken_addresses held takings old new b count c.args.len is).many ∙ c.blocks_needed-count.ensures,
      ap all_differ listed ∙ (both _ _ (both _ _ may).0).1,
      ap (list_all (is_free_address b)) listed ∙ (both _ _ may).1,
      made ∙ ap (λ i. pieces_of (spots_from i 0 c.args.len)) (sym c.in-Ok.ensures.id),
    )

pub returns-clause-lowest : goal.returns-clause-lowest
returns-clause-lowest c =
    let old = c.args.parts.now in
    let by = c.requires.parts in
    let b = by.what in
    let h = by.runs in
    let count = c.blocks_needed-count.result in
    let room = c.make_room.new.parts in
    let new = record room { blocks = c.take-taken.new.self } in
    let rooms = c.make_room.ensures.same by.held by.takings b h in
    let is = taken by.held by.held by.takings by.takings old room new b b c.args.shape.now count c.args.len c.take-taken.result h h by.in_shape rooms c.make_room.ensures.form c.make_room.ensures.holders
    rooms.kept refl c.blocks_needed-count.ensures c.requires.free c.requires.number c.requires.most c.take-taken.ensures.exact c.take-taken.ensures.holders in
    let addresses = lowest_open count old.blocks.holders in
    c.in-Ok.ensures.addresses addresses (subst (λ i. AreAddresses c.take-taken.new.self.holders i count addresses) (sym h.kept.next) (taken_addresses by.held by.takings old new b count c.args.len is))
    ∙ ap (λ n. lowest_open n old.blocks.holders) c.blocks_needed-count.ensures

pub returns-clause-own : goal.returns-clause-own
returns-clause-own c =
    take_hands c.args.parts.now.next c.blocks_needed-count.result c.take-taken.result c.args.parts.now.blocks.holders c.make_room.new.parts.blocks.holders c.take-taken.new.self.holders c.make_room.ensures.holders c.take-taken.ensures.holders

pub returns-in_default-clause-none : goal.returns-in_default-clause-none
returns-in_default-clause-none c =
    let hands = take_hands c.args.parts.now.next c.blocks_needed-count.result c.take-taken.result c.args.parts.now.blocks.holders c.make_room.new.parts.blocks.holders c.take-taken.new.self.holders c.make_room.ensures.holders c.take-taken.ensures.holders in
    taken_back c.args.parts.now.next c.args.parts.now.blocks.holders c.take-taken.new.self.holders c.drop_owner.new.self.holders hands c.drop_owner.ensures.holders
