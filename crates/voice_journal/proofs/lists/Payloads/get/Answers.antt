use Rattle.std.proofs.Common.{◌≡◌, ◌≤◌, ℕ, zero, suc, List, [], ◌∷◌, length, Option, Some, None, refl, sym, ap, ◌∙◌}
use Rattle.std.specs.Prelude.{Vec, slice_get}
use Rattle.std.specs.declared.alloc.Global.{Global}
use Rattle.std.proofs.lemmas.Option.{slice_get_read, slice_get_past}
use Rattle.voice_journal.specs.Readings.{views}
use Rattle.voice_journal.proofs.lists.Payloads.get.Goals as goal

abbrev items_of : Option (Vec ℕ Global) → Option (List ℕ)
items_of None = None
items_of (Some v) = Some v.items

seen : (vs : List (Vec ℕ Global)) (k : ℕ) → slice_get (views vs) k ≡ items_of (slice_get vs k)
seen [] k = refl
seen (v ∷ vs) zero = refl
seen (v ∷ vs) (suc k) = seen vs k

pub returns-in-Some : goal.returns-in-Some
returns-in-Some c =
    let all = c.deref.result.now in
    let v = c.in-Some.bytes.now in
    let found : slice_get all c.args.k ≡ Some v = slice_get_read all (length all) c.args.k v refl c.in-Some.ensures.lookup.3.0 c.in-Some.ensures.lookup.1 in
    let here : slice_get (views all) c.args.k ≡ Some v.items = seen all c.args.k ∙ ap items_of found in
    ap (λ (l : List (List ℕ)). slice_get l c.args.k) (sym c.self.view_is ∙ ap views (sym c.deref.ensures.value)) ∙ here ∙ ap (λ (l : List ℕ). Some l) (sym c.deref-in-Some.ensures.value)

pub returns-in-None : goal.returns-in-None
returns-in-None c =
    let all = c.deref.result.now in
    let past : length all ≤ c.args.k = c.in-None.ensures.lookup.3 in
    ap (λ (l : List (List ℕ)). slice_get l c.args.k) (sym c.self.view_is ∙ ap views (sym c.deref.ensures.value)) ∙ seen all c.args.k ∙ ap items_of (slice_get_past all c.args.k past)
