-- What the calls of a script leave on the disk.
use Rattle.std.proofs.Common.{◌≡◌, ℕ, ◌+◌, List, Some, Bool, false, sym, subst}
use Rattle.std.specs.Prelude.{IsTrue}
use Rattle.std.specs.Arc.{arc_value}
use Rattle.voice_model.specs.declared.calls.Entry.{Entry}
use Rattle.voice_model.specs.State.{State}
use Rattle.voice_model.specs.Heard.{LegalOn}
use Rattle.voice_model.specs.Image.{opened_from}
use Rattle.voice_outside.specs.Disk.{Told}
use Rattle.voice_store.specs.declared.inside.Inside.{Inside}
use Rattle.voice_store.specs.Shown.{Stands}
use Rattle.voice_store.specs.Turns.{ShortTurns}
use Rattle.voice_main.specs.Ran.{OnDisk, Performed}

-- the history of a store that stands
on_disk : (first : State) (origin disk : Told) (inside : Inside) {wanted : Bool} → Stands first origin disk inside wanted → (IsTrue origin.honest → opened_from origin.bytes ≡ Some first) → OnDisk first (arc_value inside.tapes) origin disk inside.history.items
on_disk first origin disk inside stands opened = record {
  opened = opened;
  held = λ honest. (stands.stood.upright.held (subst IsTrue (sym stands.honest) honest)).held;
  acks = stands.stood.upright.acks;
  faults = stands.faults;
}

pub performed_by : (first : State) (origin disk : Told) (inside : Inside) (tapes : List (List ℕ)) (history : List Entry) (made : Bool → State → Type 0) {wanted : Bool} → Stands first origin disk inside wanted → (IsTrue origin.honest → opened_from origin.bytes ≡ Some first)
    → inside.history.items ≡ history → arc_value inside.tapes ≡ tapes → made origin.honest first → Performed tapes made origin disk history
performed_by first origin disk inside tapes history made stands opened same_history same_tapes so = record {
  first = first;
  made_so = so;
  disk = subst (λ h. OnDisk first tapes origin disk h) same_history (subst (λ t. OnDisk first t origin disk inside.history.items) same_tapes (on_disk first origin disk inside stands opened));
}

pub legal_of : (first : State) (origin disk : Told) (inside : Inside) (tapes : List (List ℕ)) (history : List Entry) {wanted : Bool} → Stands first origin disk inside wanted → inside.history.items ≡ history → arc_value inside.tapes ≡ tapes → LegalOn origin.honest first tapes history
legal_of first origin disk inside tapes history stands same_history same_tapes =
    subst (λ h. LegalOn origin.honest first tapes h) same_history
    (subst (λ t. LegalOn origin.honest first t inside.history.items) same_tapes (subst (λ (x : Bool). LegalOn x first (arc_value inside.tapes) inside.history.items) stands.honest stands.stood.upright.legal))

-- what the store's calls left, as it was closed
pub ended : {D : Type 0} (told : D → Told) (first : State) (entry origin final out : D) (inside : Inside) (tapes : List (List ℕ)) (shown history : List Entry) (made : List Entry → Bool → State → Type 0) {wanted : Bool}
    → origin ≡ entry → out ≡ final → Stands first (told origin) (told final) inside wanted → (IsTrue (told entry).honest → opened_from (told entry).bytes ≡ Some first)
    → inside.history.items ≡ shown → history ≡ shown → arc_value inside.tapes ≡ tapes → (LegalOn (told entry).honest first tapes shown → made shown (told entry).honest first) → Performed tapes (made history) (told entry) (told out) history
ended told first entry origin final out inside tapes shown history made {wanted} origin_is out_is stands opened inside_history same_history inside_tapes so =
    let from_entry = subst (λ d. Stands first (told d) (told final) inside wanted) origin_is stands in
    let to_out = subst (λ d. Stands first (told entry) (told d) inside wanted) (sym out_is) from_entry in
    let legal = legal_of first (told entry) (told out) inside tapes shown to_out inside_history inside_tapes in
    subst (λ h. Performed tapes (made h) (told entry) (told out) h) (sym same_history) (performed_by first (told entry) (told out) inside tapes shown (made shown) to_out opened inside_history inside_tapes (so legal))

-- where memory was never wanted each entry came within the device calls that it may take
pub in_short_turns : {D : Type 0} (told : D → Told) (first : State) (entry origin final out : D) (inside : Inside) (tapes : List (List ℕ)) (shown : List Entry) (wanted : Bool)
    → origin ≡ entry → out ≡ final → Stands first (told origin) (told final) inside wanted → wanted ≡ false → inside.history.items ≡ shown → arc_value inside.tapes ≡ tapes → ShortTurns first tapes ((told entry).calls + 5) shown (told out).calls
in_short_turns told first entry origin final out inside tapes shown wanted origin_is out_is stands unwanted inside_history inside_tapes =
    subst (λ d. ShortTurns first tapes ((told entry).calls + 5) shown (told d).calls) (sym out_is)
    (subst (λ d. ShortTurns first tapes ((told d).calls + 5) shown (told final).calls) origin_is
    (subst (λ h. ShortTurns first tapes ((told origin).calls + 5) h (told final).calls) inside_history
    (subst (λ t. ShortTurns first t ((told origin).calls + 5) inside.history.items (told final).calls) inside_tapes (stands.turns unwanted))))
