use Rattle.std.proofs.Common.{◌≡◌, map, sym, ◌∙◌, ap, subst}
use Rattle.voice_model.specs.Spelling.{spelling}
use Rattle.voice_model.specs.Base.{base_of, by_file, file_change, row_change}
use Rattle.voice_model.specs.Replay.{Rebuilt}
use Rattle.voice_journal.specs.Readings.{framed_size}
use Rattle.checkpoint.specs.Blocks.{place_of_block, kept_change}
use Rattle.checkpoint.specs.Compact.{CanCompact, head_change}
use Rattle.checkpoint.specs.Again.{ReplaysAs}
use Rattle.checkpoint.proofs.Again.{replays_as}
use Rattle.checkpoint.proofs.Joined.{grown, same_size}
use Rattle.checkpoint.proofs.Shown.{framed_shown}
use Rattle.checkpoint.proofs.Tables.{numbers, placed_are, head_fits, files_fit, ropes_fit, rows_fit, whole}
use Rattle.checkpoint.proofs.compacting.compact.Goals as goal

pub used_blocks-requires : goal.used_blocks-requires
used_blocks-requires c = numbers c.args.form c.args.table.now c.args.interests.now.rows c.args.blocks.now.holders c.args.moment c.args.next c.requires.what c.requires.can

pub put_head-requires : goal.put_head-requires
put_head-requires c = head_fits c.args.form c.args.table.now c.args.interests.now.rows c.args.blocks.now.holders c.args.moment c.args.next c.requires.what c.requires.can

pub put_files-requires : goal.put_files-requires
put_files-requires c =
    let placed = placed_are c.args.form c.args.table.now c.args.interests.now.rows c.args.blocks.now.holders c.args.moment c.args.next c.requires.what c.requires.can
    c.in_ok-noted.noted c.deref.result.now c.in_ok-placed.placed.items c.list_names.ensures.ordered c.in_ok-noted.ensures (c.deref.ensures.value ∙ c.in_ok-names.ensures.items) c.in_ok-placed.ensures in
    files_fit c.args.form c.args.table.now c.args.interests.now.rows c.args.blocks.now.holders c.args.moment c.args.next c.requires.what c.requires.can
    (map place_of_block c.deref-2.result.now) (ap (map place_of_block) c.deref-2.ensures.value ∙ placed)

pub put_ropes-requires-clause-some : goal.put_ropes-requires-clause-some
put_ropes-requires-clause-some c = numbers c.args.form c.args.table.now c.args.interests.now.rows c.args.blocks.now.holders c.args.moment c.args.next c.requires.what c.requires.can

pub put_ropes-requires-clause-grammar : goal.put_ropes-requires-clause-grammar
put_ropes-requires-clause-grammar c = ropes_fit c.args.form c.args.table.now c.args.interests.now.rows c.args.blocks.now.holders c.args.moment c.args.next c.requires.what c.requires.can

pub put_rows-requires : goal.put_rows-requires
put_rows-requires c = rows_fit c.args.form c.args.table.now c.args.interests.now.rows c.args.blocks.now.holders c.args.moment c.args.next c.requires.what c.requires.can

base_is : (c : goal.After-drop-noted-2) (r : Rebuilt) → CanCompact c.args.form c.args.table.now c.args.interests.now.rows c.args.blocks.now.holders c.args.moment c.args.next r → c.put_rows.new.payloads ≡ map spelling (base_of c.args.form r)
base_is c r can =
    let placed = placed_are c.args.form c.args.table.now c.args.interests.now.rows c.args.blocks.now.holders c.args.moment c.args.next r can
    c.in_ok-noted.noted c.deref.result.now c.in_ok-placed.placed.items c.list_names.ensures.ordered c.in_ok-noted.ensures (c.deref.ensures.value ∙ c.in_ok-names.ensures.items) c.in_ok-placed.ensures in
    grown c.new-payloads.result c.put_head.new.payloads c.put_files.new.payloads c.put_ropes.new.payloads c.put_rows.new.payloads
    (spelling (head_change c.args.form c.args.moment c.args.next))
    (map spelling (map (file_change c.args.form) (by_file (map place_of_block c.deref-2.result.now))))
    (map spelling (map (kept_change c.args.form) c.args.table.now.ropes))
    (map spelling (map row_change c.args.interests.now.rows))
    c.new-payloads.ensures c.in_ok-put_head.ensures c.in_ok-put_files.ensures c.in_ok-put_ropes.ensures c.in_ok-put_rows.ensures
    ∙ whole c.args.form c.args.table.now c.args.interests.now.rows c.args.blocks.now.holders c.args.moment c.args.next r can
    (map place_of_block c.deref-2.result.now) (ap (map place_of_block) c.deref-2.ensures.value ∙ placed)

pub returns-clause-base : goal.returns-clause-base
returns-clause-base c = base_is c

pub returns-clause-size : goal.returns-clause-size
returns-clause-size c = λ r can. ap framed_size (base_is c r can) ∙ same_size (base_of c.args.form r)

pub returns-clause-numbers : goal.returns-clause-numbers
returns-clause-numbers c =
    ap framed_size (base_is c c.requires.what c.requires.can)
    ∙ same_size (base_of c.args.form c.requires.what)
    ∙ framed_shown c.args.form c.args.table.now c.args.interests.now.rows c.args.blocks.now.holders c.args.moment c.args.next c.requires.what c.requires.can

pub returns-clause-replays : goal.returns-clause-replays
returns-clause-replays c = λ r can. subst (ReplaysAs c.args.form r) (sym (base_is c r can)) (replays_as c.args.form r can.valid can.placed can.used can.spelled)
