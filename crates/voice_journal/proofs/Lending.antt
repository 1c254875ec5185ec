-- Payloads that are lent out of bytes.
use Rattle.std.proofs.Common.{◌≡◌, ℕ, zero, suc, ◌+◌, ◌<◌, ◌≤◌, List, [], ◌∷◌, ◌++◌, length, take, drop, get_or, refl, ap, sym, ◌∙◌, arith, Some, None}
use Rattle.std.specs.Prelude.{slice_get, option_map}
use Rattle.std.proofs.lemmas.List.{take-append-le, drop-append-le, take-append-drop, length-take-le, length-drop}
use Rattle.std.proofs.lemmas.Option.{slice_get-map, slice_get_read, slice_get_past}
use Rattle.disk_areas.specs.Areas.{Record}
use Rattle.voice_journal.specs.Readings.{record_at}
use Rattle.voice_journal.specs.Lent.{record_in, lent, AreWithin}
use Rattle.voice_journal.specs.declared.lists.Span.{Span}

pub lent_push : (bytes : List ℕ) (spans : List Span) (p : Span) → lent bytes (spans ++ p ∷ []) ≡ lent bytes spans ++ record_in bytes p ∷ []
lent_push bytes [] p = refl
lent_push bytes (s ∷ spans) p = ap (λ (l : List Record). record_in bytes s ∷ l) (lent_push bytes spans p)

pub within_push : (size more : ℕ) (spans : List Span) (p : Span) → AreWithin size spans → size ≤ more → p.from + p.len ≤ more → AreWithin more (spans ++ p ∷ [])
within_push size more [] p h le end = (end, tt)
within_push size more (s ∷ spans) p h le end = (let here = h.0 in omega (arith, here), within_push size more spans p h.1 le end)

pub within_more : (size more : ℕ) (spans : List Span) → AreWithin size spans → size ≤ more → AreWithin more spans
within_more size more [] h le = tt
within_more size more (s ∷ spans) h le = (let here = h.0 in omega (arith, here), within_more size more spans h.1 le)

-- the part with this number
pub within_at : (size : ℕ) (spans : List Span) (k : ℕ) (s : Span) → AreWithin size spans → k < length spans → s ≡ get_or spans k s → s.from + s.len ≤ size
within_at size [] k s h lt is = absurd (omega arith)
within_at size (x ∷ spans) zero s h lt is = let here = h.0 in let from = ap (λ (y : Span). y.from) is in let len = ap (λ (y : Span). y.len) is in omega (arith, here, from, len)
within_at size (x ∷ spans) (suc k) s h lt is = within_at size spans k s h.1 (omega arith) is

-- what stands behind other bytes changes no part of them
part_before : (bytes more : List ℕ) (from len : ℕ) → from + len ≤ length bytes → take len (drop from (bytes ++ more)) ≡ take len (drop from bytes)
part_before bytes more from len h =
    ap (take len) (drop-append-le from bytes more (omega arith))
    ∙ take-append-le len (drop from bytes) more (let left = length-drop from bytes in omega (arith, left))

pub lent_before : (bytes more : List ℕ) (spans : List Span) → AreWithin (length bytes) spans → lent (bytes ++ more) spans ≡ lent bytes spans
lent_before bytes more [] h = refl
lent_before bytes more (s ∷ spans) h =
    ap (λ (l : List ℕ). record_at s.place l ∷ lent (bytes ++ more) spans) (part_before bytes more s.from s.len h.0)
    ∙ ap (λ (l : List Record). record_in bytes s ∷ l) (lent_before bytes more spans h.1)

-- the bytes as far as the last part are enough
pub lent_front : (bytes : List ℕ) (size : ℕ) (spans : List Span) → AreWithin size spans → size ≤ length bytes → lent (take size bytes) spans ≡ lent bytes spans
lent_front bytes size spans h le =
    sym (lent_before (take size bytes) (drop size bytes) spans (within_more size (length (take size bytes)) spans h (let n = length-take-le size bytes le in omega (arith, n))))
    ∙ ap (λ (l : List ℕ). lent l spans) (take-append-drop size bytes)

-- the part that stands behind all bytes
pub part_behind : (bytes more : List ℕ) → take (length more) (drop (length bytes) (bytes ++ more)) ≡ more
part_behind [] [] = refl
part_behind [] (x ∷ more) = ap (λ (l : List ℕ). x ∷ l) (part_behind [] more)
part_behind (b ∷ bytes) more = part_behind bytes more

-- the record with this number
pub lent_at : (bytes : List ℕ) (spans : List Span) (k : ℕ) (s : Span) → k < length spans → s ≡ get_or spans k s → slice_get (lent bytes spans) k ≡ Some (record_in bytes s)
lent_at bytes spans k s lt is = slice_get-map (record_in bytes) spans k ∙ ap (option_map (record_in bytes)) (slice_get_read spans (length spans) k s refl lt is)

-- there are not so many
pub lent_past : (bytes : List ℕ) (spans : List Span) (k : ℕ) → length spans ≤ k → slice_get (lent bytes spans) k ≡ None
lent_past bytes spans k le = slice_get-map (record_in bytes) spans k ∙ ap (option_map (record_in bytes)) (slice_get_past spans k le)
