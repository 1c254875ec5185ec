-- Tables that show the same.
use Rattle.std.proofs.Common.{◌≡◌, Bool, true, [], length, Result, Ok, sym, ◌∙◌, ap}
use Rattle.voice_units.specs.declared.shapes.Shape.{Shape}
use Rattle.voice_units.specs.declared.errors.NoMemory.{NoMemory}
use Rattle.voice_units.specs.Blocks.{BlockPair}
use Rattle.voice_model.specs.Replay.{Rebuilt, acted}
use Rattle.voice_model.specs.declared.changes.Change.{Change}
use Rattle.voice_blocks.specs.Holders.{Holders, holder_at}
use Rattle.rope_table.specs.Table.{uses_at}
use Rattle.recovery.specs.declared.parts.Parts.{Parts}
use Rattle.recovery.specs.Shown.{Rebuilds, IsParts, IsApplied}
use Rattle.recovery.proofs.Showing.{reserved_shown}
use Rattle.mirror_tables.specs.Beside.{IsSame, IsBehind}

-- what tables show is determined but for the order of places
pub shown_alike : (parts tables : Parts) (x b : Rebuilt) → Rebuilds parts x → Rebuilds tables x → Rebuilds parts b → Rebuilds tables b
shown_alike parts tables x b before there here = record {
  kept = record {
    block = there.kept.block ∙ sym before.kept.block ∙ here.kept.block;
    ropes = there.kept.ropes ∙ sym before.kept.ropes ∙ here.kept.ropes;
    uses = there.kept.uses;
    rows = there.kept.rows ∙ sym before.kept.rows ∙ here.kept.rows;
    moment = there.kept.moment ∙ sym before.kept.moment ∙ here.kept.moment;
    next = there.kept.next ∙ sym before.kept.next ∙ here.kept.next;
  };
  places = record {
    size = there.places.size ∙ sym before.places.size ∙ here.places.size;
    each = λ a. there.places.each a ∙ sym (before.places.each a) ∙ here.places.each a;
  };
  in_form = there.in_form ∙ sym before.in_form ∙ here.in_form;
  valid = here.valid;
  placed = here.placed;
  used = here.used;
}

-- tables that show what parts show are as replay leaves them
pub same_parts : (shape : Shape) (parts tables : Parts) → IsParts shape parts → IsSame parts tables → IsParts shape tables
same_parts shape parts tables h same = record { what = h.what; shows = same h.what h.shows; in_shape = h.in_shape }

-- a copy shows the same
pub copied : (parts tables : Parts) → tables.ropes.ropes ≡ parts.ropes.ropes → tables.ropes.block ≡ parts.ropes.block → ((pair : BlockPair) → uses_at tables.ropes pair ≡ uses_at parts.ropes pair)
    → tables.interests.rows ≡ parts.interests.rows → tables.blocks.holders ≡ parts.blocks.holders → tables.moment ≡ parts.moment → tables.next ≡ parts.next → tables.form ≡ parts.form → IsSame parts tables
copied parts tables ropes block uses rows holders moment next form b h =
    let table = reserved_shown [] b.kept parts.ropes tables.ropes parts.interests.rows parts.moment parts.next h.kept ropes block uses in
    record {
      kept = record { block = table.block; ropes = table.ropes; uses = table.uses; rows = rows ∙ h.kept.rows; moment = moment ∙ h.kept.moment; next = next ∙ h.kept.next };
      places = record { size = ap length holders ∙ h.places.size; each = λ a. ap (λ (l : Holders). holder_at l a) holders ∙ h.places.each a };
      in_form = form ∙ h.in_form;
      valid = h.valid;
      placed = h.placed;
      used = h.used;
    }

-- tables that lacked a change show the same once it is done
pub now_same : (shape : Shape) (parts tables new : Parts) (change : Change) (result : Result Bool NoMemory) → IsBehind shape parts tables change → IsApplied shape tables new change result → result ≡ Ok true → IsSame parts new
now_same shape parts tables new change result h tried ok b shows = shown_alike parts new (acted h.was change) b h.acted (tried.done h.was h.shows h.in_shape ok) shows
