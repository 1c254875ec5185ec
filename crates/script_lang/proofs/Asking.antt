-- The variables of a caller, and what its lines ask for.
use Rattle.std.proofs.Common.{◌≡◌, ℕ, Bool, true, false, cond, List, [], ◌∷◌, map, sym, refl, ap, ◌∙◌, Option, Some}
use Rattle.std.specs.Prelude.{unwrap_or}
use Rattle.std.specs.Str.{bytes_eq}
use Rattle.std.specs.Map.{lookup}
use Rattle.std.proofs.lemmas.Slice.Eq.{bytes_eq-Decides}
use Rattle.indexmap.specs.IndexMap.{insert_entry}
use Rattle.voice_model.specs.declared.calls.Call.TheVariants as calls
use Rattle.voice_model.specs.Follows.{Binding, value_of, bound}
use Rattle.script_lang.specs.declared.scripts.RopeArg.{RopeArg}
use Rattle.script_lang.specs.declared.scripts.RopeArg.TheVariants as ropes
use Rattle.script_lang.specs.declared.scripts.Verb.{Verb}
use Rattle.script_lang.specs.declared.scripts.Verb.TheVariants as verbs
use Rattle.script_lang.specs.Bindings.{bindings, Sets}
use Rattle.script_lang.specs.Grammar.{verb_name}
use Rattle.script_lang.specs.Errands.{meant, asked, SameValues, IsBuiltAlike, IsAskedOf}
use Rattle.script_lang.proofs.Names.{turned}

-- the value of a variable in the map
or_zero : (b : Bool) (v : ℕ) (o : Option ℕ) → unwrap_or (cond b (Some v) o) 0 ≡ cond b v (unwrap_or o 0)
or_zero true v o = refl
or_zero false v o = refl

pub value_is : (es : List (List ℕ × ℕ)) (name : List ℕ) → unwrap_or (lookup (bytes_eq name) es) 0 ≡ value_of (bindings es) name
value_is [] name = refl
value_is (e ∷ es) name =
    or_zero (bytes_eq name e.0) e.1 (lookup (bytes_eq name) es)
    ∙ ap (λ b. cond b e.1 (unwrap_or (lookup (bytes_eq name) es) 0)) (turned name e.0)
    ∙ ap (cond (bytes_eq e.0 name) e.1) (value_is es name)

-- setting one
swap : (p q : Bool) (x y r : ℕ) → (p ≡ true → q ≡ true → ⊥) → cond p x (cond q y r) ≡ cond q y (cond p x r)
swap true true x y r n = absurd (n refl refl)
swap true false x y r n = refl
swap false q x y r n = refl

over : (b : Bool) (v w r : ℕ) → cond b v r ≡ cond b v (cond b w r)
over true v w r = refl
over false v w r = refl

no_both : true ≡ false → ⊥
no_both e = cc

abbrev put : Bool → List ℕ × ℕ → List (List ℕ × ℕ) → List ℕ → ℕ → List (List ℕ × ℕ)
put b e es k v = cond b ((e.0, v) ∷ es) (e ∷ insert_entry bytes_eq es k v)

put_is : (b : Bool) (e : List ℕ × ℕ) (es : List (List ℕ × ℕ)) (k : List ℕ) (v : ℕ) (other : List ℕ) → bytes_eq k e.0 ≡ b → Sets (bindings es) k v (bindings (insert_entry bytes_eq es k v)) →
    value_of (bindings (put b e es k v)) other ≡ cond (bytes_eq k other) v (value_of (bindings (e ∷ es)) other)
put_is true e es k v other t rest =
    let same : k ≡ e.0 = (bytes_eq-Decides k e.0).0 t in
    over (bytes_eq e.0 other) v e.1 (value_of (bindings es) other) ∙ ap (λ x. cond (bytes_eq x other) v (cond (bytes_eq e.0 other) e.1 (value_of (bindings es) other))) (sym same)
put_is false e es k v other t rest =
    ap (cond (bytes_eq e.0 other) e.1) (rest other)
    ∙ swap (bytes_eq e.0 other) (bytes_eq k other) e.1 v (value_of (bindings es) other) (
    λ p q.
    let same : k ≡ e.0 = (bytes_eq-Decides k other).0 q ∙ sym ((bytes_eq-Decides e.0 other).0 p) in
    no_both (sym ((bytes_eq-Decides k e.0).1 same) ∙ t)
    )

pub set_is : (es : List (List ℕ × ℕ)) (k : List ℕ) (v : ℕ) → Sets (bindings es) k v (bindings (insert_entry bytes_eq es k v))
set_is [] k v other = refl
set_is (e ∷ es) k v other = put_is (bytes_eq k e.0) e es k v other refl (set_is es k v)

pub bind_sets : (old new variables : List Binding) (name : List ℕ) (rope : ℕ) → Sets old name rope new → SameValues old variables → SameValues new (bound (Some name) (Some rope) variables)
bind_sets old new variables name rope h same other = h other ∙ ap (cond (bytes_eq name other) rope) (same other)

-- what a line asks for depends on the values of its variables alone
meant_same : (a b : List Binding) (rope : RopeArg) → SameValues a b → meant a rope ≡ meant b rope
meant_same a b (ropes.Id n) h = refl
meant_same a b (ropes.Var name) h = h name

all_same : (a b : List Binding) (args : List RopeArg) → SameValues a b → map (meant a) args ≡ map (meant b) args
all_same a b [] h = refl
all_same a b (rope ∷ args) h = ap (λ n. n ∷ map (meant a) args) (meant_same a b rope h) ∙ ap (λ ns. meant b rope ∷ ns) (all_same a b args h)

pub asked_same : (tapes : List (List ℕ)) (verb : Verb) (a b : List Binding) → SameValues a b → asked tapes verb a ≡ asked tapes verb b
asked_same tapes (verbs.Record tape) a b h = refl
asked_same tapes (verbs.Concat args) a b h = ap (λ ns. Some (calls.Concat ns)) (all_same a b args h)
asked_same tapes (verbs.Sub rope start len) a b h = ap (λ n. Some (calls.Sub n start len)) (meant_same a b rope h)
asked_same tapes (verbs.Replace rope start len with) a b h =
    ap (λ n. Some (calls.Replace n start len (meant a with))) (meant_same a b rope h) ∙ ap (λ n. Some (calls.Replace (meant b rope) start len n)) (meant_same a b with h)
asked_same tapes (verbs.Length rope) a b h = ap (λ n. Some (calls.Length n)) (meant_same a b rope h)
asked_same tapes (verbs.Retain class key rope note) a b h = ap (λ n. Some (calls.Retain class key n note)) (meant_same a b rope h)
asked_same tapes (verbs.Forget class key) a b h = refl
asked_same tapes (verbs.Lookup class key) a b h = refl
asked_same tapes (verbs.Census keys) a b h = refl
asked_same tapes (verbs.Advance moment) a b h = refl
asked_same tapes (verbs.Sweep limit) a b h = refl
asked_same tapes (verbs.Describe rope) a b h = ap (λ n. Some (calls.Describe n)) (meant_same a b rope h)
asked_same tapes (verbs.Queue lane rope start len) a b h = ap (λ n. Some (calls.Play lane n start len)) (meant_same a b rope h)
asked_same tapes (verbs.Play lane rope start len) a b h = ap (λ n. Some (calls.Play lane n start len)) (meant_same a b rope h)
asked_same tapes (verbs.Serve lane) a b h = refl
asked_same tapes (verbs.Stop lane) a b h = refl
asked_same tapes (verbs.Begin lane) a b h = refl
asked_same tapes (verbs.Add lane tape) a b h = refl
asked_same tapes (verbs.End lane) a b h = refl
asked_same tapes (verbs.Levels rope) a b h = ap (λ n. Some (calls.Levels n)) (meant_same a b rope h)

-- a verb is built where its call is, but one that serves a lane
pub built_alike : (tapes : List (List ℕ)) (verb : Verb) (b : List Binding) → IsBuiltAlike (verb_name verb) (asked tapes verb b)
built_alike tapes (verbs.Record tape) b = refl
built_alike tapes (verbs.Concat args) b = refl
built_alike tapes (verbs.Sub rope start len) b = refl
built_alike tapes (verbs.Replace rope start len with) b = refl
built_alike tapes (verbs.Length rope) b = refl
built_alike tapes (verbs.Retain class key rope note) b = refl
built_alike tapes (verbs.Forget class key) b = refl
built_alike tapes (verbs.Lookup class key) b = refl
built_alike tapes (verbs.Census keys) b = refl
built_alike tapes (verbs.Advance moment) b = refl
built_alike tapes (verbs.Sweep limit) b = refl
built_alike tapes (verbs.Describe rope) b = refl
built_alike tapes (verbs.Queue lane rope start len) b = refl
built_alike tapes (verbs.Play lane rope start len) b = refl
built_alike tapes (verbs.Serve lane) b = tt
built_alike tapes (verbs.Stop lane) b = refl
built_alike tapes (verbs.Begin lane) b = refl
built_alike tapes (verbs.Add lane tape) b = refl
built_alike tapes (verbs.End lane) b = refl
built_alike tapes (verbs.Levels rope) b = refl

-- a caller may ask the call
pub asked_of : (tapes : List (List ℕ)) (verb : Verb) (b : List Binding) → IsAskedOf (asked tapes verb b)
asked_of tapes (verbs.Record tape) b = refl
asked_of tapes (verbs.Concat args) b = refl
asked_of tapes (verbs.Sub rope start len) b = refl
asked_of tapes (verbs.Replace rope start len with) b = refl
asked_of tapes (verbs.Length rope) b = refl
asked_of tapes (verbs.Retain class key rope note) b = refl
asked_of tapes (verbs.Forget class key) b = refl
asked_of tapes (verbs.Lookup class key) b = refl
asked_of tapes (verbs.Census keys) b = refl
asked_of tapes (verbs.Advance moment) b = refl
asked_of tapes (verbs.Sweep limit) b = refl
asked_of tapes (verbs.Describe rope) b = refl
asked_of tapes (verbs.Queue lane rope start len) b = refl
asked_of tapes (verbs.Play lane rope start len) b = refl
asked_of tapes (verbs.Serve lane) b = tt
asked_of tapes (verbs.Stop lane) b = refl
asked_of tapes (verbs.Begin lane) b = refl
asked_of tapes (verbs.Add lane tape) b = refl
asked_of tapes (verbs.End lane) b = refl
asked_of tapes (verbs.Levels rope) b = refl
