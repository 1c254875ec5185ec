-- Uses of blocks stay as rows go.
use Rattle.std.proofs.Common.{◌≡◌, ℕ, ◌+◌, ◌==◌, Bool, true, false, cond, not, ◌&&◌, List, [], ◌∷◌, map, Option, Some, None, refl, sym, ◌∙◌, ap, ap₂}
use Rattle.std.specs.Prelude.{Result, Ok, Err, IfOk, IsOk}
use Rattle.voice_units.specs.declared.pieces.Piece.{Piece}
use Rattle.voice_units.specs.declared.shapes.Graces.{Graces}
use Rattle.voice_units.specs.Spots.{Spot, pieces_of}
use Rattle.voice_units.specs.Blocks.{BlockPair}
use Rattle.voice_units.specs.declared.errors.NoMemory.{NoMemory}
use Rattle.voice_model.specs.State.{Durable, Live, has_row, settled}
use Rattle.voice_model.specs.declared.calls.Row.{Row}
use Rattle.voice_blocks.specs.declared.owner.Owner.{Owner}
use Rattle.voice_blocks.specs.declared.owner.Owner.TheVariants.{File, Taking}
use Rattle.voice_blocks.specs.declared.owner.Holder.{Holder}
use Rattle.voice_blocks.specs.Holders.{Holders, holder_at}
use Rattle.rope_table.specs.Table.{Table, uses_at, uses_in, pieces_in, pair_of}
use Rattle.recovery.specs.Shown.{ShowsKept, shown_rope}
use Rattle.recovery.specs.Placing.{in_use, is_unused}

-- a call that has room, and is legal, does it
pub is_done : (legal : Bool) (result : Result Bool NoMemory) → IsOk result → IfOk result (λ done. done ≡ legal) → legal ≡ true → result ≡ Ok true
is_done legal (Ok done) h e l = ap Ok (e ∙ l)
is_done legal (Err x) h e l = cc

abbrev lists_of : List (Live Spot) → List (List Piece)
lists_of ropes = map (λ rope. pieces_of rope.samples) ropes

shown_pieces : (g : Graces) (rows : List Row) (ropes : List (Live Spot)) → pieces_in (map (shown_rope g rows) ropes) ≡ lists_of ropes
shown_pieces g rows [] = refl
shown_pieces g rows (rope ∷ ropes) = ap (λ l. pieces_of rope.samples ∷ l) (shown_pieces g rows ropes)

pub settled_lists : (form now class : ℕ) (before after : List Row) (ropes : List (Live Spot)) → lists_of (map (settled form now class before after) ropes) ≡ lists_of ropes
settled_lists form now class before after [] = refl
settled_lists form now class before after (rope ∷ ropes) =
    ap₂ (λ x l. x ∷ l) (one (has_row before rope.id && not (has_row after rope.id))) (settled_lists form now class before after ropes)
  where
    one : (b : Bool) → pieces_of (cond b (record rope { idle = now; last = cond (form == 2) class rope.last }) rope).samples ≡ pieces_of rope.samples
    one true = refl
    one false = refl

uses_shown : (held : List (List Piece)) (t : Table) (rows : List Row) (moment next : ℕ) (d : Durable Spot) → ShowsKept held t rows moment next d → (pair : BlockPair) → uses_at t pair ≡ uses_in d.shape.block (lists_of d.ropes) pair + uses_in d.shape.block held pair
uses_shown held t rows moment next d h pair =
    h.uses pair
    ∙ ap (λ l. uses_in t.block l pair + uses_in t.block held pair) (ap pieces_in h.ropes ∙ shown_pieces d.shape.graces d.rows d.ropes)
    ∙ ap (λ b. uses_in b (lists_of d.ropes) pair + uses_in b held pair) h.block

-- where the pieces of live ropes stay, the uses do
pub uses_stay : (held : List (List Piece)) (t u : Table) (rows others : List Row) (moment later next number : ℕ) (d e : Durable Spot) → ShowsKept held t rows moment next d → ShowsKept held u others later number e
    → e.shape.block ≡ d.shape.block → lists_of e.ropes ≡ lists_of d.ropes → (pair : BlockPair) → uses_at u pair ≡ uses_at t pair
uses_stay held t u rows others moment later next number d e h k block lists pair =
    uses_shown held u others later number e k pair
    ∙ ap (λ b. uses_in b (lists_of e.ropes) pair + uses_in b held pair) block
    ∙ ap (λ l. uses_in d.shape.block l pair + uses_in d.shape.block held pair) lists
    ∙ sym (uses_shown held t rows moment next d h pair)

-- and so does who holds an address
pub in_use_alike : (t u : Table) → ((pair : BlockPair) → uses_at u pair ≡ uses_at t pair) → (o : Option Holder) → in_use u o ≡ in_use t o
in_use_alike t u same None = refl
in_use_alike t u same (Some h) = ap (λ b. cond b None (Some h)) (unused h.owner)
  where
    unused : (owner : Owner) → is_unused u owner h.index ≡ is_unused t owner h.index
    unused (File file) = ap (λ n. n == 0) (same (pair_of file h.index))
    unused (Taking lane) = refl

-- addresses that stay, of blocks that are all in use
pub stay_in_use : (t u : Table) (held left : Holders) → left ≡ held → ((pair : BlockPair) → uses_at u pair ≡ uses_at t pair) → ((a : ℕ) → in_use t (holder_at held a) ≡ holder_at held a) → (a : ℕ) → in_use u (holder_at left a) ≡ holder_at left a
stay_in_use t u held left is same all a =
    ap (λ l. in_use u (holder_at l a)) is ∙ in_use_alike t u same (holder_at held a) ∙ all a ∙ ap (λ l. holder_at l a) (sym is)

pub none_freed : (t u : Table) (held left : Holders) → left ≡ held → ((pair : BlockPair) → uses_at u pair ≡ uses_at t pair) → ((a : ℕ) → in_use t (holder_at held a) ≡ holder_at held a) → (a : ℕ) → holder_at left a ≡ in_use u (holder_at held a)
none_freed t u held left is same all a = ap (λ l. holder_at l a) is ∙ sym (all a) ∙ sym (in_use_alike t u same (holder_at held a))
