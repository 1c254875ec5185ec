use Rattle.std.proofs.Common.{◌≡◌, ◌≤◌, ◌+◌, ℕ, List, length, refl, arith, not}
use Rattle.voice_model.specs.Samples.{Tagged}
use Rattle.voice_model.specs.State.{Durable, class_number, is_row}
use Rattle.voice_model.specs.State.Effect.{Retained, Swept}
use Rattle.voice_model.specs.Changes.{changed, base_size, without_expired, is_expired}
use Rattle.std.specs.Prelude.{◌&&◌, ◌==◌, bytes_eq}
use Rattle.std.specs.List.{list_any}
use Rattle.voice_model.specs.declared.calls.Row.{Row}
use Rattle.ready_changes.proofs.Smaller.{fewer_rows, fewer_ropes, last_sum}
use Rattle.ready_changes.proofs.laws.base_grows_by_rows.Goals as goal

retained : (to form : ℕ) (d : Durable Tagged) (row : Row) → base_size to (changed form d (Retained row)) ≡ base_size to d + (17 + length row.key + length row.note)
retained to form d row = let more = last_sum (λ (row : Row). 17 + length row.key + length row.note) d.rows row in omega (arith, more)

swept : (to form : ℕ) (d : Durable Tagged) (ids : List ℕ) → base_size to (changed form d (Swept ids)) ≤ base_size to d
swept to form d ids =
    let rows = fewer_rows to form 2 d (λ row. not (is_expired d.moment row)) in
    let ropes = fewer_ropes to (without_expired form d) ids in
    omega (arith, rows, ropes)

pub returns : goal.returns
returns c = record {
  retained = retained;
  forgotten = λ to form d class key. fewer_rows to form (class_number class) d (λ row. not (is_row class key row));
  counted = λ to form d keys. fewer_rows to form 3 d (λ row. not ((class_number row.class == 3) && list_any (bytes_eq row.key) keys));
  swept = swept;
  advanced = λ to form d moment. refl;
}
