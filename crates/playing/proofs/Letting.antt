-- Passages are let go one after another.
use Rattle.std.proofs.Common.{◌≡◌, ℕ, zero, suc, ◌+◌, ◌≤◌, Bool, true, false, ◌&&◌, ◌||◌, cond, ◌==◌, List, [], ◌∷◌, ◌++◌, length, take, drop, refl, sym, ◌∙◌, ap, subst, arith, append_assoc, Option, Some, None}
use Rattle.std.specs.Prelude.{slice_get}
use Rattle.std.proofs.lemmas.Bool.{eqb-true, eq-eqb}
use Rattle.std.proofs.lemmas.List.{append-nil}
use Rattle.voice_units.specs.declared.pieces.Piece.{Piece}
use Rattle.voice_units.specs.Spots.{spots_of, stretches}
use Rattle.voice_units.specs.Blocks.{BlockPair, pairs_at, has_pair}
use Rattle.rope_table.specs.Table.{Table, Counts, uses_at, uses_in, uses_by, pair_of}
use Rattle.voice_blocks.specs.Holders.{Holders, EachBecomes, holder_at}
use Rattle.voice_blocks.specs.Holders as holders
use Rattle.voice_blocks.specs.declared.owner.Owner.{Owner}
use Rattle.voice_blocks.specs.declared.owner.Owner.TheVariants.{File, Taking}
use Rattle.voice_blocks.specs.declared.owner.Holder.{Holder}
use Rattle.collector.specs.Freed.{freed}
use Rattle.collector.proofs.Released.{same_freed, same_becomes}
use Rattle.play_queue.specs.declared.jobs.Job.{Job}
use Rattle.playing.specs.Held.{held_one, held_in, passages_have, stretch_count, LetsGo}

-- ---- what becomes of an address, as in the collector

abbrev if_not : Bool → Holder → Option Holder
if_not b h = cond b None (Some h)

split : {P : Type 0} (b : Bool) → (b ≡ true → P) → (b ≡ false → P) → P
split true f g = f refl
split false f g = g refl

still : (b : Bool) (m n : ℕ) (k : Holder) → (b ≡ false → n ≡ m) → (m == 0) ≡ false → if_not (b && (n == 0)) k ≡ if_not (n == 0) k
still true m n k others e = refl
still false m n k others e = sym (ap (λ t. if_not t k) (ap (λ x. x == 0) (others refl) ∙ e))

goes_twice : (a b : Bool) (m n : ℕ) (k : Holder) (o : Option Holder → Option Holder) → n ≤ m → (b ≡ false → n ≡ m) → o None ≡ None → o (Some k) ≡ if_not (b && (n == 0)) k → o (if_not (a && (m == 0)) k) ≡ if_not ((a || b) && (n == 0)) k
goes_twice false b m n k o fewer others none some = some
goes_twice true b m n k o fewer others none some = split (m == 0)
    (λ e.
    let n0 : n ≡ 0 = omega (arith, fewer, eqb-true m 0 e) in
    ap (λ t. o (if_not t k)) e ∙ none ∙ sym (ap (λ t. if_not t k) (eq-eqb n 0 n0)))
    (λ e. ap (λ t. o (if_not t k)) e ∙ some ∙ still b m n k others e)

freed_twice_at : (has_1 has_2 : BlockPair → Bool) (uses_1 uses_2 : BlockPair → ℕ) (owner : Owner) (index : ℕ) → ((q : BlockPair) → uses_2 q ≤ uses_1 q) → ((q : BlockPair) → has_2 q ≡ false → uses_2 q ≡ uses_1 q)
    → freed has_2 uses_2 (freed has_1 uses_1 (Some (holders.block_of owner index))) ≡ freed (λ q. has_1 q || has_2 q) uses_2 (Some (holders.block_of owner index))
freed_twice_at has_1 has_2 uses_1 uses_2 (File file) index fewer others =
    let q = pair_of file index in
    goes_twice (has_1 q) (has_2 q) (uses_1 q) (uses_2 q) (holders.block_of (File file) index) (freed has_2 uses_2) (fewer q) (others q) refl refl
freed_twice_at has_1 has_2 uses_1 uses_2 (Taking lane) index fewer others = refl

freed_twice : (has_1 has_2 : BlockPair → Bool) (uses_1 uses_2 : BlockPair → ℕ) (o : Option Holder) → ((q : BlockPair) → uses_2 q ≤ uses_1 q) → ((q : BlockPair) → has_2 q ≡ false → uses_2 q ≡ uses_1 q)
    → freed has_2 uses_2 (freed has_1 uses_1 o) ≡ freed (λ q. has_1 q || has_2 q) uses_2 o
freed_twice has_1 has_2 uses_1 uses_2 None fewer others = refl
freed_twice has_1 has_2 uses_1 uses_2 (Some h) fewer others = freed_twice_at has_1 has_2 uses_1 uses_2 h.owner h.index fewer others

-- ---- passages

pub uses_in-append : (block : ℕ) (xs ys : List (List Piece)) (q : BlockPair) → uses_in block (xs ++ ys) q ≡ uses_in block xs q + uses_in block ys q
uses_in-append block [] ys q = omega arith
uses_in-append block (x ∷ xs) ys q = let rest = uses_in-append block xs ys q in omega (arith, rest)

have-append : (block : ℕ) (xs ys : List (List Piece)) (q : BlockPair) → passages_have block (xs ++ ys) q ≡ (passages_have block xs q || passages_have block ys q)
have-append block [] ys q = refl
have-append block (x ∷ xs) ys q = ap (λ t. has_pair (pairs_at block (spots_of x)) q || t) (have-append block xs ys q) ∙ assoc (has_pair (pairs_at block (spots_of x)) q) (passages_have block xs q) (passages_have block ys q)
  where
    assoc : (a b c : Bool) → (a || (b || c)) ≡ ((a || b) || c)
    assoc true b c = refl
    assoc false b c = refl

-- none of the passages has it
unused_by : (block : ℕ) (xs : List (List Piece)) (q : BlockPair) → passages_have block xs q ≡ false → uses_in block xs q ≡ 0
unused_by block [] q e = refl
unused_by block (x ∷ xs) q e = by (has_pair (pairs_at block (spots_of x)) q) (passages_have block xs q) refl e (unused_by block xs q)
  where
    by : (a b : Bool) → has_pair (pairs_at block (spots_of x)) q ≡ a → (a || b) ≡ false → (b ≡ false → uses_in block xs q ≡ 0) → cond (has_pair (pairs_at block (spots_of x)) q) 1 0 + uses_in block xs q ≡ 0
    by true b h e rest = cc
    by false b h e rest = let here = ap (λ t. is_one t) h in let later = rest e in omega (arith, here, later)
      where
        is_one : Bool → ℕ
        is_one t = cond t 1 0

pub let_go_twice : (t_0 t_1 t_2 : Table) (h_0 h_1 h_2 : Holders) (xs ys : List (List Piece)) → LetsGo t_0 t_1 h_0 h_1 xs → LetsGo t_1 t_2 h_1 h_2 ys → LetsGo t_0 t_2 h_0 h_2 (xs ++ ys)
let_go_twice t_0 t_1 t_2 h_0 h_1 h_2 xs ys f s =
    let same : (q : BlockPair) → uses_in t_1.block ys q ≡ uses_in t_0.block ys q = λ q. ap (λ n. uses_in n ys q) f.block in
    record {
      ropes = s.ropes ∙ f.ropes;
      block = s.block ∙ f.block;
      uses = λ q. let a = f.uses q in let b = s.uses q in let c = same q in let d = uses_in-append t_0.block xs ys q in omega (arith, a, b, c, d);
      counts = λ rest c. s.counts rest (f.counts (ys ++ rest) (subst (Counts t_0) (append_assoc xs ys rest) c));
      holders = record {
        count = s.holders.count ∙ f.holders.count;
        each = λ a. s.holders.each a ∙ ap (freed (passages_have t_1.block ys) (uses_at t_2)) (f.holders.each a)
            ∙ freed_twice (passages_have t_0.block xs) (passages_have t_1.block ys) (uses_at t_1) (uses_at t_2) (holder_at h_0 a)
            (λ q. let b = s.uses q in omega (arith, b)) (λ q e. let b = s.uses q in let none = unused_by t_1.block ys q e in omega (arith, b, none))
            ∙ same_freed (λ q. passages_have t_0.block xs q || passages_have t_1.block ys q) (passages_have t_0.block (xs ++ ys)) (uses_at t_2) (holder_at h_0 a)
            (λ q. ap (λ n. passages_have t_0.block xs q || passages_have n ys q) f.block ∙ sym (have-append t_0.block xs ys q));
      };
    }

-- ---- the jobs of a lane

pub held-append : (xs ys : List Job) → held_in (xs ++ ys) ≡ held_in xs ++ held_in ys
held-append [] ys = refl
held-append (x ∷ xs) ys = ap (λ l. held_one x ++ l) (held-append xs ys) ∙ sym (append_assoc (held_one x) (held_in xs) (held_in ys))

take_one : (js : List Job) (k : ℕ) (j : Job) → slice_get js k ≡ Some j → (take (k + 1) js ≡ take k js ++ j ∷ []) × (js ≡ take k js ++ j ∷ drop (k + 1) js)
take_one [] k j at = cc
take_one (x ∷ js) zero j at = let e : x ≡ j = cc in (ap (λ (y : Job). y ∷ []) e, ap (λ (y : Job). y ∷ js) e)
take_one (x ∷ js) (suc k) j at =
    let rest = take_one js k j at in
    let n : suc k + 1 ≡ suc (k + 1) = omega arith in
    (ap (λ i. take i (x ∷ js)) n ∙ ap (λ l. x ∷ l) rest.0, ap (λ l. x ∷ l) rest.1 ∙ ap (λ i. x ∷ (take k js ++ j ∷ drop i (x ∷ js))) (sym n))

pub held_to : (js : List Job) (k : ℕ) (j : Job) → slice_get js k ≡ Some j → held_in (take (k + 1) js) ≡ held_in (take k js) ++ held_one j
held_to js k j at = ap held_in (take_one js k j at).0 ∙ held-append (take k js) (j ∷ []) ∙ ap (λ l. held_in (take k js) ++ l) (append-nil (held_one j))

pub held_from : (js : List Job) (k : ℕ) (j : Job) → slice_get js k ≡ Some j → held_in js ≡ held_in (take k js) ++ (held_one j ++ held_in (drop (k + 1) js))
held_from js k j at = ap held_in (take_one js k j at).1 ∙ held-append (take k js) (j ∷ drop (k + 1) js)

held_skipped : (js : List Job) (k : ℕ) (j : Job) → slice_get js k ≡ Some j → j.stopped ≡ true → held_in (take (k + 1) js) ≡ held_in (take k js)
held_skipped js k j at stopped = held_to js k j at ∙ ap (λ b. held_in (take k js) ++ cond b [] (j.passage ∷ [])) stopped ∙ append-nil (held_in (take k js))

held_gone : (js : List Job) (k : ℕ) (j : Job) → slice_get js k ≡ Some j → j.stopped ≡ false → held_in (take (k + 1) js) ≡ held_in (take k js) ++ j.passage ∷ []
held_gone js k j at goes = held_to js k j at ∙ ap (λ b. held_in (take k js) ++ cond b [] (j.passage ∷ [])) goes

-- ---- steps

stretch_count-append : (block : ℕ) (xs ys : List (List Piece)) → stretch_count block (xs ++ ys) ≡ stretch_count block xs + stretch_count block ys
stretch_count-append block [] ys = omega arith
stretch_count-append block (x ∷ xs) ys = let rest = stretch_count-append block xs ys in omega (arith, rest)

pub steps_skipped : (block first now : ℕ) (js : List Job) (k : ℕ) (j : Job) → slice_get js k ≡ Some j → j.stopped ≡ true → now ≡ first + stretch_count block (held_in (take k js)) → now ≡ first + stretch_count block (held_in (take (k + 1) js))
steps_skipped block first now js k j at stopped is = is ∙ ap (λ xs. first + stretch_count block xs) (sym (held_skipped js k j at stopped))

pub steps_gone : (block own first now next : ℕ) (js : List Job) (k : ℕ) (j : Job) → slice_get js k ≡ Some j → j.stopped ≡ false → own ≡ block → now ≡ first + stretch_count block (held_in (take k js)) → next ≡ now + stretch_count own (j.passage ∷ []) → next ≡ first + stretch_count block (held_in (take (k + 1) js))
steps_gone block own first now next js k j at goes same is more =
    let all = ap (stretch_count block) (held_gone js k j at goes) ∙ stretch_count-append block (held_in (take k js)) (j.passage ∷ []) in
    let one = ap (λ n. stretch_count n (j.passage ∷ [])) same in
    omega (arith, all, one, is, more)

pub steps_of_one : (block own first next : ℕ) (p : List Piece) → own ≡ block → next ≡ first + length (stretches own (spots_of p)) → next ≡ first + stretch_count block (p ∷ [])
steps_of_one block own first next p same is = let one = ap (λ n. length (stretches n (spots_of p))) same in omega (arith, one, is)

-- one more job was looked at
pub job_skipped : (t_0 t : Table) (h_0 h : Holders) (js : List Job) (k : ℕ) (j : Job) → slice_get js k ≡ Some j → j.stopped ≡ true → LetsGo t_0 t h_0 h (held_in (take k js)) → LetsGo t_0 t h_0 h (held_in (take (k + 1) js))
job_skipped t_0 t h_0 h js k j at stopped f =
    subst (LetsGo t_0 t h_0 h) (sym (held_skipped js k j at stopped)) f

pub job_gone : (t_0 t t' : Table) (h_0 h h' : Holders) (js : List Job) (k : ℕ) (j : Job) → slice_get js k ≡ Some j → j.stopped ≡ false → LetsGo t_0 t h_0 h (held_in (take k js)) → LetsGo t t' h h' (j.passage ∷ []) → LetsGo t_0 t' h_0 h' (held_in (take (k + 1) js))
job_gone t_0 t t' h_0 h h' js k j at goes f s =
    subst (LetsGo t_0 t' h_0 h') (sym (held_gone js k j at goes)) (let_go_twice t_0 t t' h_0 h h' (held_in (take k js)) (j.passage ∷ []) f s)

pub job_held : (t_0 t : Table) (h_0 h : Holders) (js : List Job) (k : ℕ) (j : Job) (rest : List (List Piece)) → slice_get js k ≡ Some j → j.stopped ≡ false → LetsGo t_0 t h_0 h (held_in (take k js)) → Counts t_0 (held_in js ++ rest) → Counts t (j.passage ∷ (held_in (drop (k + 1) js) ++ rest))
job_held t_0 t h_0 h js k j rest at goes f c =
    f.counts (j.passage ∷ (held_in (drop (k + 1) js) ++ rest))
    (subst (Counts t_0)
    (ap (λ l. l ++ rest) (held_from js k j at ∙ ap (λ b. held_in (take k js) ++ (cond b [] (j.passage ∷ []) ++ held_in (drop (k + 1) js))) goes) ∙ append_assoc (held_in (take k js)) (j.passage ∷ held_in (drop (k + 1) js)) rest) c)

pub one_gone : (old new : Table) (held left : Holders) (p : List Piece) → new.ropes ≡ old.ropes → new.block ≡ old.block → ((q : BlockPair) → uses_at new q + uses_by old.block p q ≡ uses_at old q) → ((before after : List (List Piece)) → Counts old (before ++ p ∷ after) → Counts new (before ++ after)) → EachBecomes (freed (has_pair (pairs_at new.block (spots_of p))) (uses_at new)) held left → LetsGo old new held left (p ∷ [])
one_gone old new held left p ropes block uses counts each = record {
  ropes = ropes;
  block = block;
  uses = λ q. let u = uses q in omega (arith, u);
  counts = λ rest c. counts [] rest c;
  holders = same_becomes (has_pair (pairs_at new.block (spots_of p))) (passages_have old.block (p ∷ [])) (uses_at new) held left (λ q. ap (λ n. has_pair (pairs_at n (spots_of p)) q) block ∙ sym (or_false (has_pair (pairs_at old.block (spots_of p)) q))) each;
}
  where
    or_false : (b : Bool) → (b || false) ≡ b
    or_false true = refl
    or_false false = refl
