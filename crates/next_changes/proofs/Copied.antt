-- Changes that bring no rope are done, on the tables or on a copy of them.
use Rattle.std.proofs.Common.{◌≡◌, ℕ, ◌≤◌, true, false, List, [], length, Option, Some, None, refl, sym, ◌∙◌, ap, subst}
use Rattle.voice_units.specs.declared.pieces.Piece.{Piece}
use Rattle.voice_units.specs.Spots.{Spot}
use Rattle.voice_model.specs.State.{Durable}
use Rattle.voice_model.specs.Changes.{changed}
use Rattle.voice_model.specs.Replay.{Rebuilt, brings, is_legal, acted}
use Rattle.voice_model.specs.Spelling.{keeps_grammar}
use Rattle.voice_model.specs.declared.changes.Change.{Change}
use Rattle.voice_model.specs.declared.changes.Change.TheVariants as changes
use Rattle.voice_blocks.specs.Holders.{holder_at}
use Rattle.voice_blocks.specs.declared.owner.Holder.{Holder}
use Rattle.interest_table.specs.Table.{Table}
use Rattle.recovery.specs.declared.parts.Parts.{Parts}
use Rattle.recovery.specs.Shown.{Shows}
use Rattle.recovery.specs.Placing.{in_use, is_unused}
use Rattle.ready_changes.specs.Ready.{Does, IsReady, after, AllInUse, FreesUnused, frees}
use Rattle.ready_changes.specs.declared.Act.{Act}
use Rattle.ready_changes.specs.declared.Act.TheVariants as acts
use Rattle.ready_changes.specs.declared.ReadyChange.{ReadyChange}
use Rattle.ready_changes.proofs.Rebuilt.{brought}
use Rattle.running_tables.specs.Running.{Runs}
use Rattle.running_tables.specs.Laws.{keeps_ropes}
use Rattle.running_tables.proofs.Landed.{altered}
use Rattle.running_tables.proofs.Swept.{all_in_use, swept}
use Rattle.next_ropes.specs.Addresses.{KeepsAddresses}
use Rattle.next_ropes.proofs.HandedOut.{stayed}

-- of the addresses that were given out only those go whose blocks nothing uses
pub freed_keeps : (old new : Parts) → FreesUnused old new → KeepsAddresses old.blocks.holders new.blocks.holders
freed_keeps old new gone a h e = used (holder_at old.blocks.holders a) (sym (gone a) ∙ e)
  where
    used : (o : Option Holder) → in_use new.ropes o ≡ Some h → o ≡ Some h
    used None k = cc
    used (Some g) k = stayed (is_unused new.ropes g.owner g.index) (Some g) h k

-- what is ready with room for rows is ready with other room for one
pub with_room : (spare other : ℕ) (d : Durable Spot) (ready : ReadyChange) (c : Change) → 1 ≤ other → IsReady spare d ready c → IsReady other d ready c
with_room spare other d ready c room h = record { does = by ready.act h.does; payload = h.payload; grammar = h.grammar }
  where
    by : (act : Act) → Does spare d act c → Does other d act c
    by (acts.Retain row) does = record { is = does.is; room = room; few = does.few; live = does.live; fresh = does.fresh }
    by (acts.Forget class key) does = does
    by (acts.Count going) does = does
    by (acts.Sweep going ids) does = does
    by (acts.Advance moment) does = does

-- other room for rows, and the same rows
pub with_rows : (held : List (List Piece)) (parts : Parts) (interests : Table) (d : Durable Spot) → interests.rows ≡ parts.interests.rows → Shows held parts d → Shows held (record parts { interests = interests }) d
with_rows held parts interests d same h = record { block = h.block; ropes = h.ropes; uses = h.uses; rows = same ∙ h.rows; moment = h.moment; next = h.next }

module _ (held : List (List Piece)) (takings : List ℕ) (spare : ℕ) (old new : Parts) (b : Rebuilt) (c : Change) (ready : ReadyChange)
    (runs : Runs held [] takings old b) (legal : is_legal b c ≡ true) (is : IsReady spare b.kept ready c)
    (shows : Shows held new (after old.form b.kept (brings c))) (stay : frees ready.act ≡ false → new.blocks ≡ old.blocks) (sweeps : AllInUse old → FreesUnused old new)
    (size : length new.blocks.holders ≡ length old.blocks.holders) (form : new.form ≡ old.form) where
  shown : Shows held new (acted b c).kept
  shown =
      let effect = brought spare b.kept ready.act c is.does in
      subst (λ (r : Rebuilt). Shows held new r.kept) (sym (effect.acts b)) (subst (λ f. Shows held new (changed f b.kept effect.effect)) runs.in_form (subst (Shows held new) (effect.same old.form) shows))

  by_rows : keeps_ropes c ≡ true → frees ready.act ≡ false → Runs held [] takings new (acted b c)
  by_rows kind none = altered held [] takings old new b c runs legal is.grammar kind shown form (ap (λ blocks. blocks.holders) (stay none))

  by_sweep : (ids : List ℕ) → c ≡ changes.Swept ids → Runs held [] takings new (acted b c)
  by_sweep ids e =
      subst (λ (x : Change). Runs held [] takings new (acted b x)) (sym e)
      (swept held takings old new b ids runs (ap (is_legal b) (sym e) ∙ legal) (ap keeps_grammar (sym e) ∙ is.grammar) (subst (λ (x : Change). Shows held new (acted b x).kept) e shown) form size
      (sweeps (all_in_use held takings old b runs)))

  -- it is done, and the tables show what is rebuilt after it
  pub other_done : Runs held [] takings new (acted b c)
  other_done = by ready.act refl is.does
    where
      by : (act : Act) → ready.act ≡ act → Does spare b.kept act c → Runs held [] takings new (acted b c)
      by (acts.Retain row) e does = by_rows (ap keeps_ropes does.is) (ap frees e)
      by (acts.Forget class key) e does = by_rows (ap keeps_ropes does) (ap frees e)
      by (acts.Count going) e does = by_rows (ap keeps_ropes does.is) (ap frees e)
      by (acts.Sweep going ids) e does = by_sweep ids does.is
      by (acts.Advance moment) e does = by_rows (ap keeps_ropes does) (ap frees e)
