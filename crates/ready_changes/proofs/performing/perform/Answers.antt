use Rattle.std.proofs.Common.{[], length, refl, sym, ap, subst}
use Rattle.std.specs.Prelude.{filter, not}
use Rattle.voice_model.specs.State.{class_number, is_row}
use Rattle.voice_model.specs.State.Effect.{Retained, Forgotten, Counted, Advanced}
use Rattle.voice_model.specs.Changes.{changed, rows_left}
use Rattle.voice_model.specs.Replay.{brings}
use Rattle.voice_model.specs.declared.changes.Change.{Change}
use Rattle.recovery.specs.Shown.{Shows}
use Rattle.recovery.proofs.Rebuilding.{orderly}
use Rattle.voice_units.specs.declared.shapes.Shape.{Shape}
use Rattle.ready_changes.specs.Ready.{Does, after}
use Rattle.ready_changes.proofs.Rebuilt.{rebuilds_next}
use Rattle.ready_changes.proofs.Uses.{uses_stay, none_freed, settled_lists}
use Rattle.ready_changes.proofs.performing.perform.Goals as goal

pub returns-in-Retain-clause-shows : goal.returns-in-Retain-clause-shows
returns-in-Retain-clause-shows c held d change h ordered graces ready =
    let form = c.args.parts.now.form in
    let does = subst (λ act. Does c.args.parts.now.interests.spare d act change) c.in-Retain.is ready.does in
    subst (λ (x : Change). Shows held c.come.new.parts (after form d (brings x))) (sym does.is) (c.come.ensures.shows held form d h does.live does.fresh does.room)

pub returns-in-Retain-clause-blocks : goal.returns-in-Retain-clause-blocks
returns-in-Retain-clause-blocks c held d change h ordered graces ready used =
    let old = c.args.parts.now in
    let new = c.come.new.parts in
    let does = subst (λ act. Does old.interests.spare d act change) c.in-Retain.is ready.does in
    let shows = c.come.ensures.shows held old.form d h does.live does.fresh does.room in
    none_freed old.ropes new.ropes old.blocks.holders new.blocks.holders (ap (λ b. b.holders) c.come.ensures.blocks)
    (uses_stay held old.ropes new.ropes old.interests.rows new.interests.rows old.moment new.moment old.next new.next d (changed old.form d (Retained c.in-Retain.row)) h shows refl refl) used

pub returns-in-Forget-clause-shows : goal.returns-in-Forget-clause-shows
returns-in-Forget-clause-shows c held d change h ordered graces ready =
    let form = c.args.parts.now.form in
    let does = subst (λ act. Does c.args.parts.now.interests.spare d act change) c.in-Forget.is ready.does in
    subst (λ (x : Change). Shows held c.forget.new.self (after form d (brings x))) (sym does) (c.forget.ensures.shows held d h ordered graces)

pub returns-in-Forget-clause-blocks : goal.returns-in-Forget-clause-blocks
returns-in-Forget-clause-blocks c held d change h ordered graces ready used =
    let old = c.args.parts.now in
    let new = c.forget.new.self in
    let class = c.in-Forget.class in
    let shows = c.forget.ensures.shows held d h ordered graces in
    none_freed old.ropes new.ropes old.blocks.holders new.blocks.holders (ap (λ b. b.holders) c.forget.ensures.blocks)
    (uses_stay held old.ropes new.ropes old.interests.rows new.interests.rows old.moment new.moment old.next new.next d (changed old.form d (Forgotten class c.in-Forget.key)) h shows refl
    (settled_lists old.form d.moment (class_number class) d.rows (filter (λ row. not (is_row class c.in-Forget.key row)) d.rows) d.ropes)) used

pub returns-in-Count-clause-shows : goal.returns-in-Count-clause-shows
returns-in-Count-clause-shows c held d change h ordered graces ready =
    let form = c.args.parts.now.form in
    let does = subst (λ act. Does c.args.parts.now.interests.spare d act change) c.in-Count.is ready.does in
    subst (λ (x : Change). Shows held c.drop_gathered.new.self (after form d (brings x))) (sym does.is) (c.drop_gathered.ensures.shows held d does.keys h ordered graces does.gathered)

pub returns-in-Count-clause-blocks : goal.returns-in-Count-clause-blocks
returns-in-Count-clause-blocks c held d change h ordered graces ready used =
    let old = c.args.parts.now in
    let new = c.drop_gathered.new.self in
    let does = subst (λ act. Does old.interests.spare d act change) c.in-Count.is ready.does in
    let shows = c.drop_gathered.ensures.shows held d does.keys h ordered graces does.gathered in
    none_freed old.ropes new.ropes old.blocks.holders new.blocks.holders (ap (λ b. b.holders) c.drop_gathered.ensures.blocks)
    (uses_stay held old.ropes new.ropes old.interests.rows new.interests.rows old.moment new.moment old.next new.next d (changed old.form d (Counted does.keys)) h shows refl
    (settled_lists old.form d.moment 3 d.rows (rows_left d.rows does.keys) d.ropes)) used

pub returns-in-Sweep-clause-shows : goal.returns-in-Sweep-clause-shows
returns-in-Sweep-clause-shows c held d change h ordered graces ready =
    let form = c.args.parts.now.form in
    let does = subst (λ act. Does c.args.parts.now.interests.spare d act change) c.in-Sweep.is ready.does in
    subst (λ (x : Change). Shows held c.sweep.new.parts (after form d (brings x))) (sym does.is) (c.sweep.ensures.shows held d h ordered graces does.gathered)

pub returns-in-Sweep-clause-blocks : goal.returns-in-Sweep-clause-blocks
returns-in-Sweep-clause-blocks c held d change h ordered graces ready used =
    let does = subst (λ act. Does c.args.parts.now.interests.spare d act change) c.in-Sweep.is ready.does in
    c.sweep.ensures.blocks held d h ordered graces does.gathered used

pub returns-in-Advance-clause-shows : goal.returns-in-Advance-clause-shows
returns-in-Advance-clause-shows c held d change h ordered graces ready =
    let form = c.args.parts.now.form in
    let does = subst (λ act. Does c.args.parts.now.interests.spare d act change) c.in-Advance.is ready.does in
    subst (λ (x : Change). Shows held c.advance.new.self (after form d (brings x))) (sym does) (c.advance.ensures.shows held form d h)

pub returns-in-Advance-clause-blocks : goal.returns-in-Advance-clause-blocks
returns-in-Advance-clause-blocks c held d change h ordered graces ready used =
    let old = c.args.parts.now in
    let new = c.advance.new.self in
    let shows = c.advance.ensures.shows held old.form d h in
    none_freed old.ropes new.ropes old.blocks.holders new.blocks.holders (ap (λ b. b.holders) c.advance.ensures.blocks)
    (uses_stay held old.ropes new.ropes old.interests.rows new.interests.rows old.moment new.moment old.next new.next d (changed old.form d (Advanced c.in-Advance.moment)) h shows refl refl) used

-- ---- what is rebuilt

pub returns-in-Retain-clause-rebuilds : goal.returns-in-Retain-clause-rebuilds
returns-in-Retain-clause-rebuilds c r change h same legal ready =
    let old = c.args.parts.now in
    let ordered = orderly old r h in
    let graces = ap (λ (s : Shape). s.graces) same in
    rebuilds_next old.interests.spare old c.come.new.parts r change c.args.ready.now h legal ready
    (returns-in-Retain-clause-shows c [] r.kept change h.kept ordered graces ready)
    (returns-in-Retain-clause-blocks c [] r.kept change h.kept ordered graces ready)
    (ap (λ b. length b.holders) c.come.ensures.blocks) c.come.ensures.form

pub returns-in-Forget-clause-rebuilds : goal.returns-in-Forget-clause-rebuilds
returns-in-Forget-clause-rebuilds c r change h same legal ready =
    let old = c.args.parts.now in
    let ordered = orderly old r h in
    let graces = ap (λ (s : Shape). s.graces) same in
    rebuilds_next old.interests.spare old c.forget.new.self r change c.args.ready.now h legal ready
    (returns-in-Forget-clause-shows c [] r.kept change h.kept ordered graces ready)
    (returns-in-Forget-clause-blocks c [] r.kept change h.kept ordered graces ready)
    (ap (λ b. length b.holders) c.forget.ensures.blocks) c.forget.ensures.form

pub returns-in-Count-clause-rebuilds : goal.returns-in-Count-clause-rebuilds
returns-in-Count-clause-rebuilds c r change h same legal ready =
    let old = c.args.parts.now in
    let ordered = orderly old r h in
    let graces = ap (λ (s : Shape). s.graces) same in
    rebuilds_next old.interests.spare old c.drop_gathered.new.self r change c.args.ready.now h legal ready
    (returns-in-Count-clause-shows c [] r.kept change h.kept ordered graces ready)
    (returns-in-Count-clause-blocks c [] r.kept change h.kept ordered graces ready)
    (ap (λ b. length b.holders) c.drop_gathered.ensures.blocks) c.drop_gathered.ensures.form

pub returns-in-Sweep-clause-rebuilds : goal.returns-in-Sweep-clause-rebuilds
returns-in-Sweep-clause-rebuilds c r change h same legal ready =
    let old = c.args.parts.now in
    let ordered = orderly old r h in
    let graces = ap (λ (s : Shape). s.graces) same in
    rebuilds_next old.interests.spare old c.sweep.new.parts r change c.args.ready.now h legal ready
    (returns-in-Sweep-clause-shows c [] r.kept change h.kept ordered graces ready)
    (returns-in-Sweep-clause-blocks c [] r.kept change h.kept ordered graces ready)
    (c.sweep.ensures.size) c.sweep.ensures.form

pub returns-in-Advance-clause-rebuilds : goal.returns-in-Advance-clause-rebuilds
returns-in-Advance-clause-rebuilds c r change h same legal ready =
    let old = c.args.parts.now in
    let ordered = orderly old r h in
    let graces = ap (λ (s : Shape). s.graces) same in
    rebuilds_next old.interests.spare old c.advance.new.self r change c.args.ready.now h legal ready
    (returns-in-Advance-clause-shows c [] r.kept change h.kept ordered graces ready)
    (returns-in-Advance-clause-blocks c [] r.kept change h.kept ordered graces ready)
    (ap (λ b. length b.holders) c.advance.ensures.blocks) c.advance.ensures.form
