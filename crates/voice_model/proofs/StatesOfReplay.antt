-- What is rebuilt from changes that are legal keeps what states keep.
use Rattle.std.proofs.Common.{◌≡◌, ℕ, suc, ◌+◌, ◌-◌, ◌≤◌, ◌⊎◌, inl, inr, ◌^◌, ◌==◌, Bool, true, false, cond, not, ◌&&◌, List, [], ◌∷◌, ◌++◌, map, length, Option, Some, None, refl, sym, ◌∙◌, ap, subst, arith}
use Rattle.std.proofs.lemmas.Bool.{ltb-true, leb-true, eqb-true, eq-eqb}
use Rattle.std.specs.Prelude.{is_some, nat_lt, nat_le}
use Rattle.std.specs.List.{list_all}
use Rattle.voice_units.specs.declared.pieces.Piece.{Piece}
use Rattle.voice_units.specs.Spots.{Spot, spots_of, spots_from, pieces_of, nowhere, samples_in, IsNormal}
use Rattle.voice_units.proofs.PiecesOfRopes.{both, pieces_of-spots_of, length-spots_from}
use Rattle.voice_units.proofs.Counts.{one_piece, samples_in_runs}
use Rattle.voice_model.specs.Samples.{Tagged, spot_of, pieces_in, spots_in_rope}
use Rattle.voice_model.specs.State.{Durable, Live, Effect, opened, is_live, row_at, has_row}
use Rattle.voice_model.specs.State.Effect.{Recorded, Edited, Retained, Forgotten, Counted, Swept, Advanced}
use Rattle.voice_model.specs.Changes.{changed, without_expired}
use Rattle.voice_model.specs.Spelling.{keeps_grammar, is_id, is_moment, is_next, is_piece, are_pieces, are_apart, is_key, is_note, is_recording}
use Rattle.voice_units.specs.declared.shapes.Shape.{Shape}
use Rattle.voice_model.specs.Replay.{Rebuilt, Placed, Phase, is_begun, begun, after_effect, with_base_rope, rebuilt, nothing_rebuilt, finished, if_legal, filled, recovered, is_legal, may_be_recorded, may_be_rope, may_go, acted, live_by, durable_by, effect_by}
use Rattle.voice_model.specs.Valid.{Every, Rising, IsRope, IsRow, Once, IsKept, IsNextRope, IsFit, IsFresh, IsRebuilt, IsState}
use Rattle.voice_model.proofs.KeptByChanges.{every-append, every-imply, rising_append, rows_live, live_append, kept_changed}
use Rattle.voice_model.proofs.LegalInReplay.{live_filled}
use Rattle.voice_model.proofs.StatesKept.{quiet_lanes, quiet_count}
use Rattle.voice_model.proofs.Alike.{changed-by}
use Rattle.voice_model.specs.declared.changes.Change.{Change}
use Rattle.voice_model.specs.declared.changes.Change.TheVariants as changes
use Rattle.voice_model.specs.declared.calls.Row.{Row}

-- ---- pieces that keep the grammar

normal_pieces : (ps : List Piece) → list_all is_piece ps ≡ true → are_apart ps ≡ true → IsNormal ps
normal_pieces [] h k = tt
normal_pieces (p ∷ []) h k = some_piece p (both (is_piece p) true h).0
  where
    some_piece : (p : Piece) → is_piece p ≡ true → 1 ≤ p.len
    some_piece p e = leb-true 1 p.len (both (is_id p.file) (nat_le 1 p.len) (both (is_id p.file && nat_le 1 p.len) _ e).0).1
normal_pieces (p ∷ q ∷ ps) h k =
    let tests = both (is_piece p) (list_all is_piece (q ∷ ps)) h in
    let gaps = both (not ((p.file == q.file) && (p.from + p.len == q.from))) (are_apart (q ∷ ps)) k in (
      leb-true 1 p.len (both (is_id p.file) (nat_le 1 p.len) (both (is_id p.file && nat_le 1 p.len) _ tests.0).0).1,
      (λ c. clash _ gaps.0 (ap (λ b. b && (p.from + p.len == q.from)) (eq-eqb p.file q.file c.0) ∙ eq-eqb (p.from + p.len) q.from c.1)),
      normal_pieces (q ∷ ps) tests.1 gaps.1,
    )
  where
    clash : (b : Bool) → not b ≡ true → b ≡ true → ⊥
    clash true e f = cc
    clash false e f = cc

module _ (f : Spot → Tagged) (same : (s : Spot) → spot_of (f s) ≡ s) where
  pub spots_again : (ss : List Spot) → spots_in_rope (map f ss) ≡ ss
  spots_again [] = refl
  spots_again (s ∷ ss) = ap (λ x. x ∷ spots_in_rope (map f ss)) (same s) ∙ ap (λ l. s ∷ l) (spots_again ss)

  pub map_length : (ss : List Spot) → length (map f ss) ≡ length ss
  map_length [] = refl
  map_length (s ∷ ss) = ap suc (map_length ss)

  piece_limits : (ps : List Piece) → are_pieces ps ≡ true → (length (map f (spots_of ps)) ≤ 2 ^ 30) × (length (pieces_in (map f (spots_of ps))) ≤ 4096)
  piece_limits ps h =
      let g = both _ _ h in
      let e = both _ _ g.0 in
      let d = both (nat_le (length ps) 4096) (list_all is_piece ps) e.0 in
      let again = pieces_of-spots_of ps (normal_pieces ps d.1 g.1) in
      let most = leb-true (samples_in ps) (2 ^ 30) e.1 in
      let count : samples_in ps ≡ length (spots_of ps) = ap samples_in (sym again) ∙ samples_in_runs nowhere (spots_of ps) in
      let long = map_length (spots_of ps) in (
        omega (arith, most, count, long),
        subst (λ ss. length (pieces_of ss) ≤ 4096) (sym (spots_again (spots_of ps))) (subst (λ qs. length qs ≤ 4096) (sym again) (leb-true (length ps) 4096 d.0)),
      )

  recording_fits : (r : Rebuilt) (width id len : ℕ) (addresses : List ℕ) → may_be_recorded r id len addresses ≡ true → is_recording width id len addresses ≡ true → IsNextRope (durable_by f r.kept) id (map f (spots_from id 0 len))
  recording_fits r width id len addresses h k =
      let first = both _ _ (both _ _ (both _ _ h).0).0 in
      let g = both (is_id id) (nat_le len (2 ^ 30)) (both _ _ (both _ _ k).0).0 in
      let number = both (nat_le 1 id) (nat_le id (2 ^ 48)) g.0 in
      let most = leb-true len (2 ^ 30) g.1 in
      let long = map_length (spots_from id 0 len) in
      let whole = length-spots_from id 0 len in
      let one = one_piece id 0 len in
      record {
        next = leb-true r.next id first.0;
        number = leb-true id (2 ^ 48) number.1;
        long = omega (arith, most, long, whole);
        many = subst (λ ss. length (pieces_of ss) ≤ 4096) (sym (spots_again (spots_from id 0 len))) (omega (arith, one));
      }

  none_there : (o : Option Row) → not (is_some o) ≡ true → o ≡ None
  none_there None h = refl
  none_there (Some row) h = cc

  not_true : (b : Bool) → not b ≡ true → b ≡ false
  not_true true h = cc
  not_true false h = refl

  sweep_fits : (d : Durable Spot) (ids : List ℕ) → list_all (may_go d) ids ≡ true → Every (λ id. has_row d.rows id ≡ false) ids
  sweep_fits d [] h = tt
  sweep_fits d (id ∷ ids) h =
      let tests = both (may_go d id) (list_all (may_go d) ids) h in
      (not_true (has_row d.rows id) (both (is_live d.ropes id) (not (has_row d.rows id)) tests.0).1, sweep_fits d ids tests.1)

  after_change : (r : Rebuilt) (e : Effect Spot) → IsKept r.form (durable_by f r.kept) → IsFit r.form (durable_by f r.kept) (effect_by f e) → IsKept r.form (durable_by f (changed r.form r.kept e))
  after_change r e h fit = subst (IsKept r.form) (sym (changed-by f r.form r.kept e)) (kept_changed r.form (durable_by f r.kept) (effect_by f e) h fit)

  -- ---- a base

  base_kept : (form now next : ℕ) (d : Durable Tagged) → d.ropes ≡ [] → d.rows ≡ [] → 1 ≤ next → next ≤ 2 ^ 48 + 1 → now ≤ 2 ^ 40 → IsKept form (record d { moment = now; next = next })
  base_kept form now next d e g low high limit = record {
    rising = subst (λ l. Rising 1 l next) (sym e) low;
    next_limit = high;
    moment_limit = limit;
    each_rope = subst (Every (IsRope form now)) (sym e) tt;
    each_row = subst (Every (IsRow d.ropes)) (sym g) tt;
    once = subst Once (sym g) tt;
  }

  rising_before : (low id : ℕ) (ropes : List (Live Spot)) (next : ℕ) → low ≤ id → list_all (λ rope. nat_lt rope.id id) ropes ≡ true → Rising low (map (live_by f) ropes) next → Rising low (map (live_by f) ropes) id
  rising_before low id [] next e h k = e
  rising_before low id (rope ∷ ropes) next e h k =
      let tests = both (nat_lt rope.id id) (list_all (λ rope. nat_lt rope.id id) ropes) h in
      let less = ltb-true rope.id id tests.0 in
      (k.0, rising_before (rope.id + 1) id ropes next (omega (arith, less)) tests.1 k.1)

  rising_further : (low : ℕ) (ropes : List (Live Tagged)) (end next : ℕ) → end ≤ next → Rising low ropes end → Rising low ropes next
  rising_further low [] end next e h = omega (arith, e, h)
  rising_further low (rope ∷ ropes) end next e h = (h.0, rising_further (rope.id + 1) ropes end next e h.1)

  map_last : (ropes : List (Live Spot)) (rope : Live Spot) → map (live_by f) (ropes ++ rope ∷ []) ≡ map (live_by f) ropes ++ live_by f rope ∷ []
  map_last [] rope = refl
  map_last (r ∷ ropes) rope = ap (λ l. live_by f r ∷ l) (map_last ropes rope)

  base_rope_kept : (r : Rebuilt) (id idle last : ℕ) (pieces : List Piece) → may_be_rope r id idle pieces ≡ true → is_id id ≡ true → are_pieces pieces ≡ true → last ≤ 3 → (r.form ≡ 1 → last ≡ 0) → IsKept r.form (durable_by f r.kept) →
      IsKept r.form (record (durable_by f r.kept) { ropes = map (live_by f) (r.ropes ++ record { id = id; samples = spots_of pieces; idle = idle; last = last } ∷ []) })
  base_rope_kept r id idle last pieces h number good small plain k =
      let rope : Live Spot = record { id = id; samples = spots_of pieces; idle = idle; last = last } in
      let ropes = map (live_by f) r.ropes in
      let t4 = both _ _ h in
      let t3 = both _ _ t4.0 in
      let t2 = both _ _ t3.0 in
      let t1 = both _ _ t2.0 in
      let less = ltb-true id r.next t2.1 in
      let limits = piece_limits pieces good in
      let least = leb-true 1 id (both (nat_le 1 id) (nat_le id (2 ^ 48)) number).0 in
      subst (λ l. IsKept r.form (record (durable_by f r.kept) { ropes = l })) (sym (map_last r.ropes rope))
      (record {
        rising = rising_further 1 (ropes ++ live_by f rope ∷ []) (id + 1) r.next (omega (arith, less)) (rising_append 1 ropes id (live_by f rope) (omega arith) (rising_before 1 id r.ropes r.next least t1.1 k.rising));
        next_limit = k.next_limit;
        moment_limit = k.moment_limit;
        each_rope = every-append (IsRope r.form r.moment) ropes (live_by f rope ∷ []) k.each_rope (record { long = limits.0; many = limits.1; idle = leb-true idle r.moment t3.1; last = small; plain = plain }, tt);
        each_row = every-imply (IsRow ropes) (IsRow (ropes ++ live_by f rope ∷ [])) (rows_live ropes (ropes ++ live_by f rope ∷ []) (λ id live. live_append ropes (live_by f rope ∷ []) id live)) r.rows k.each_row;
        once = k.once;
      })

  -- ---- a change

  same_shape : (form : ℕ) (d : Durable Spot) (e : Effect Spot) → (changed form d e).shape ≡ d.shape
  same_shape form d (Recorded id samples) = refl
  same_shape form d (Edited id samples) = refl
  same_shape form d (Retained row) = refl
  same_shape form d (Forgotten class key) = refl
  same_shape form d (Counted keys) = refl
  same_shape form d (Swept ids) = refl
  same_shape form d (Advanced moment) = refl

  by_effect : (r : Rebuilt) (places : List Placed) (e : Effect Spot) → IsRebuilt f r → IsFit r.form (durable_by f r.kept) (effect_by f e) → IsRebuilt f (after_effect r places (Some e))
  by_effect r places e h fit = record {
    kept = after_change r e h.kept fit;
    forms = h.forms;
    newest = λ v. h.newest (ap (λ (shape : Shape). shape.version) (sym (same_shape r.form r.kept e)) ∙ v);
    fresh = tt;
  }

  begun_fresh : (p : Phase) (d : Durable Spot) → is_begun p ≡ true → IsFresh p d → (d.ropes ≡ []) × (d.rows ≡ [])
  begun_fresh Phase.Begun r e h = h
  begun_fresh Phase.Files r e h = cc
  begun_fresh Phase.Ropes r e h = cc
  begun_fresh Phase.Later r e h = cc

  based : (r : Rebuilt) (form now next : ℕ) → IsRebuilt f r → is_begun r.phase ≡ true → (is_moment now && is_next next) ≡ true → IsKept form (durable_by f (begun r form now next).kept)
  based r form now next h e k =
      let empty = begun_fresh r.phase r.kept e h.fresh in
      let g = both (is_moment now) (is_next next) k in
      let n = both (nat_le 1 next) (nat_le next (2 ^ 48 + 1)) g.1 in
      base_kept form now next (durable_by f r.kept) (ap (map (live_by f)) empty.0) empty.1 (leb-true 1 next n.0) (leb-true next (2 ^ 48 + 1) n.1) (leb-true now (2 ^ 40) g.0)

  roped : (r : Rebuilt) (id idle last : ℕ) (pieces : List Piece) → IsRebuilt f r → may_be_rope r id idle pieces ≡ true → is_id id ≡ true → are_pieces pieces ≡ true → last ≤ 3 → (r.form ≡ 1 → last ≡ 0) → IsRebuilt f (with_base_rope r id idle last pieces)
  roped r id idle last pieces h k number good small plain = record { kept = base_rope_kept r id idle last pieces k number good small plain h.kept; forms = h.forms; newest = h.newest; fresh = tt }

  pub rebuilt_next : (r : Rebuilt) (c : Change) → IsRebuilt f r → is_legal r c ≡ true → keeps_grammar c ≡ true → IsRebuilt f (acted r c)
  rebuilt_next r (changes.Recorded id len addresses) h k g = by_effect r _ (Recorded id (spots_from id 0 len)) h (recording_fits r 2 id len addresses (both (r.form == 1) (may_be_recorded r id len addresses) k).1 g)
  rebuilt_next r (changes.Wide id len addresses) h k g = by_effect r _ (Recorded id (spots_from id 0 len)) h (recording_fits r 4 id len addresses (both (r.form == 2) (may_be_recorded r id len addresses) k).1 g)
  rebuilt_next r (changes.Edited id pieces) h k g =
      let tests = both (is_id id) (are_pieces pieces) g in
      let limits = piece_limits pieces tests.1 in
      by_effect r [] (Edited id (spots_of pieces)) h
      (record { next = leb-true r.next id (both (nat_le r.next id) _ k).0; number = leb-true id (2 ^ 48) (both (nat_le 1 id) (nat_le id (2 ^ 48)) tests.0).1; long = limits.0; many = limits.1 })
  rebuilt_next r (changes.Retained class key id note) h k g =
      let tests = both (is_key key && is_id id) (is_note class note) g in
      let there = both (is_live r.ropes id) (not (is_some (row_at r.rows class key))) k in
      let row : Row = record { class = class; key = key; rope = id; note = note } in
      by_effect r [] (Retained row) h (record { key = (both (is_key key) (is_id id) tests.0).0; note = tests.1; live = live_filled f same r.ropes id ∙ there.0 }, none_there (row_at r.rows class key) there.1)
  rebuilt_next r (changes.Forgotten class key) h k g = by_effect r [] (Forgotten class key) h tt
  rebuilt_next r (changes.Census keys) h k g = by_effect r [] (Counted keys) h tt
  rebuilt_next r (changes.Swept ids) h k g = by_effect r [] (Swept ids) h (sweep_fits (without_expired r.form r.kept) ids k)
  rebuilt_next r (changes.Advanced moment) h k g =
      let less = ltb-true r.moment moment k in
      by_effect r [] (Advanced moment) h (omega (arith, less), leb-true moment (2 ^ 40) (both (nat_le 1 moment) (is_moment moment) g).1)
  rebuilt_next r (changes.Base now next) h k g =
      let tests = both (r.form == 1) (is_begun r.phase) k in
      let one = eqb-true r.form 1 tests.0 in
      record { kept = based r 1 now next h tests.1 g; forms = inl refl; newest = λ v. let two = h.newest v in absurd (omega (arith, one, two)); fresh = tt }
  rebuilt_next r (changes.Base2 now next) h k g = record { kept = based r 2 now next h k g; forms = inr refl; newest = λ v. refl; fresh = tt }
  rebuilt_next r (changes.File file pairs) h k g = record { kept = h.kept; forms = h.forms; newest = h.newest; fresh = h.fresh }
  rebuilt_next r (changes.File2 file pairs) h k g = record { kept = h.kept; forms = h.forms; newest = h.newest; fresh = h.fresh }
  rebuilt_next r (changes.Rope id idle pieces) h k g =
      let tests = both (is_id id && is_moment idle) (are_pieces pieces) g in
      roped r id idle 0 pieces h (both (r.form == 1) (may_be_rope r id idle pieces) k).1 (both (is_id id) (is_moment idle) tests.0).0 tests.1 (omega arith) (λ e. refl)
  rebuilt_next r (changes.Rope2 id idle last pieces) h k g =
      let tests = both (is_id id && is_moment idle && nat_le last 3) (are_pieces pieces) g in
      let early = both (is_id id && is_moment idle) (nat_le last 3) tests.0 in
      let two = eqb-true r.form 2 (both (r.form == 2) (may_be_rope r id idle pieces) k).0 in
      roped r id idle last pieces h (both (r.form == 2) (may_be_rope r id idle pieces) k).1 (both (is_id id) (is_moment idle) early.0).0 tests.1 (leb-true last 3 early.1) (λ e. absurd (omega (arith, e, two)))

  -- ---- a list of changes

  none_or : (b : Bool) (o : Option Rebuilt) (end : Rebuilt) → if_legal b o ≡ Some end → (b ≡ true) × (o ≡ Some end)
  none_or true o end h = (refl, h)
  none_or false o end h = cc

  finished_kept : (r : Rebuilt) → IsRebuilt f r → IsRebuilt f (finished r)
  finished_kept r h = record { kept = h.kept; forms = h.forms; newest = h.newest; fresh = h.fresh }

  some_same : (a b : Rebuilt) → Some a ≡ Some b → a ≡ b
  some_same a b e = cc

  pub rebuilt_kept : (r : Rebuilt) (cs : List Change) (end : Rebuilt) → IsRebuilt f r → Every (λ c. keeps_grammar c ≡ true) cs → rebuilt r cs ≡ Some end → IsRebuilt f end
  rebuilt_kept r [] end h g e = subst (IsRebuilt f) (some_same (finished r) end e) (finished_kept r h)
  rebuilt_kept r (c ∷ cs) end h g e =
      let k = none_or (is_legal r c) (rebuilt (acted r c) cs) end e in
      rebuilt_kept (acted r c) cs end (rebuilt_next r c h k.0 g.0) g.1 k.1

  form_either : (b : Bool) → (cond {A = ℕ} b 2 1 ≡ 1) ⊎ (cond {A = ℕ} b 2 1 ≡ 2)
  form_either true = inr refl
  form_either false = inl refl

  pub nothing_kept : (shape : Shape) → IsRebuilt f (nothing_rebuilt shape)
  nothing_kept shape = record {
    kept = record { rising = omega arith; next_limit = omega arith; moment_limit = omega arith; each_rope = tt; each_row = tt; once = tt };
    forms = form_either (shape.version == 2);
    newest = λ v. ap (λ n. cond {A = ℕ} (n == 2) 2 1) v;
    fresh = (refl, refl);
  }

  -- the state that is opened with what is rebuilt
  pub opened_kept : (r : Rebuilt) (left epoch : ℕ) → IsRebuilt f r → left ≤ r.shape.area - 17 → IsState (opened (durable_by f r.kept) left epoch r.form)
  opened_kept r left epoch h limit = record { kept = h.kept; forms = h.forms; doubt = tt; lanes = quiet_lanes r.shape.lanes; lane_count = quiet_count r.shape.lanes; rest = limit; newest = h.newest }

-- the durable part that an image gives, with the rest of its area, is the state of a server
pub image_kept : (image : List ℕ) (shape : Shape) (cs : List Change) (end : Rebuilt) (left epoch : ℕ) → Every (λ c. keeps_grammar c ≡ true) cs → rebuilt (nothing_rebuilt shape) cs ≡ Some end → left ≤ end.shape.area - 17 → IsState (opened (recovered image end) left epoch end.form)
image_kept image shape cs end left epoch g e limit =
    let f = filled image end in
    let same : (s : Spot) → spot_of (f s) ≡ s = λ s. refl in
    opened_kept f same end left epoch (rebuilt_kept f same (nothing_rebuilt shape) cs end (nothing_kept f same shape) g e) limit
