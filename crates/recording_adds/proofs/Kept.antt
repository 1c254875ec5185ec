-- What the addresses that are given out say of one another as the tables of a running manager go on.
use Rattle.std.proofs.Common.{◌≡◌, ◌⊎◌, inl, inr, ℕ, Bool, true, false, ◌||◌, List, ◌++◌, Some, refl, sym, ◌∙◌, ap}
use Rattle.std.proofs.lemmas.Bool.{ltb-true}
use Rattle.voice_units.specs.Blocks.{has_pair}
use Rattle.voice_units.specs.declared.pieces.Piece.{Piece}
use Rattle.voice_model.specs.Replay.{Rebuilt, used_pairs}
use Rattle.voice_blocks.specs.Holders.{holder_at, block_of}
use Rattle.voice_blocks.specs.declared.owner.Owner.{Owner}
use Rattle.voice_blocks.specs.declared.owner.Owner.TheVariants.{File, Taking}
use Rattle.rope_table.specs.Table.{pairs_in, pair_of}
use Rattle.recovery.specs.declared.parts.Parts.{Parts}
use Rattle.running_tables.specs.Running.{Runs, IsGiven, is_wanted, taken}
use Rattle.running_tables.proofs.Free.{rope_blocks}
use Rattle.next_ropes.specs.Addresses.{KeepsAddresses}
use Rattle.open_recordings.specs.Blocks.{HandsOut}
use Rattle.open_recordings.proofs.Counted.{index_low}

-- tables that show the same and give out no new address give out all
module _ (held pledged : List (List Piece)) (takings : List ℕ) (old new : Parts) (b : Rebuilt) (before : Runs held pledged takings old b) (after : Runs held pledged takings new b) (keeps : KeepsAddresses old.blocks.holders new.blocks.holders) where
  still_given : (owner : Owner) (index : ℕ) → is_wanted (used_pairs b.kept) (pairs_in b.shape.block (held ++ pledged)) takings owner index ≡ true → IsGiven new.blocks.holders (block_of owner index)
  still_given (File file) index e = by (has_pair (used_pairs b.kept) (pair_of file index)) refl
    where
      by : (t : Bool) → has_pair (used_pairs b.kept) (pair_of file index) ≡ t → IsGiven new.blocks.holders (block_of (File file) index)
      by true k = rope_blocks held pledged takings new b after (pair_of file index) k
      by false k = after.given.passages (pair_of file index) (sym (ap (λ t. t || has_pair (pairs_in b.shape.block (held ++ pledged)) (pair_of file index)) k) ∙ e)
  still_given (Taking lane) index e = after.given.recordings lane index (ltb-true index (taken takings lane) e)

  pub all_stay : KeepsAddresses new.blocks.holders old.blocks.holders
  all_stay a h e =
      let again = still_given h.owner h.index (before.given.only a h e) in
      let same : a ≡ again.0 = before.given.single a again.0 h e (keeps again.0 h again.1) in
      ap (holder_at new.blocks.holders) same ∙ again.1

-- where a lane took blocks and gave them back, no address is given out that was not before
module _ (held pledged : List (List Piece)) (takings more : List ℕ) (old mid new : Parts) (b : Rebuilt) (lane : ℕ) (before : Runs held pledged takings old b) (amid : Runs held pledged more mid b) (after : Runs held pledged takings new b)
    (hands : HandsOut lane old.blocks.holders mid.blocks.holders) (stays : KeepsAddresses mid.blocks.holders old.blocks.holders) (fewer : KeepsAddresses mid.blocks.holders new.blocks.holders) where
  own_before : (a index : ℕ) → holder_at new.blocks.holders a ≡ Some (block_of (Taking lane) index) → holder_at old.blocks.holders a ≡ Some (block_of (Taking lane) index)
  own_before a index e =
      let low = index_low new.blocks.holders _ _ takings after.given lane a index e in
      let at = before.given.recordings lane index low in
      let same : a ≡ at.0 = amid.given.single a at.0 (block_of (Taking lane) index) (fewer a (block_of (Taking lane) index) e) (stays at.0 (block_of (Taking lane) index) at.1) in
      ap (holder_at old.blocks.holders) same ∙ at.1

  pub none_more : KeepsAddresses old.blocks.holders new.blocks.holders
  none_more a h e = by (hands a h (fewer a h e))
    where
      by : (holder_at old.blocks.holders a ≡ Some h) ⊎ (h.owner ≡ Taking lane) → holder_at old.blocks.holders a ≡ Some h
      by (inl was) = was
      by (inr is) =
          let one : h ≡ block_of (Taking lane) h.index = ap (λ o. block_of o h.index) is in
          own_before a h.index (e ∙ ap Some one) ∙ ap Some (sym one)
