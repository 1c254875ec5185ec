-- The words that ask for packets.
use Rattle.std.proofs.Common.{◌≡◌, ℕ, ◌≤◌, ◌<◌, ◌^◌, ◌⊎◌, inl, inr, List, [], ◌∷◌, false, true, sym, ◌∙◌, ap, arith}
use Rattle.std.specs.Prelude.{codes}
use Rattle.std.specs.Fmt.{decimal}
use Rattle.std.proofs.lemmas.Bool.{false≢true}
use Rattle.std.proofs.lemmas.Fmt.{decimal_injective}
use Rattle.script_lang.specs.Forms.{is_file}
use Rattle.voice_main.specs.Words.{IsPackets, IsNoPackets}

-- the four words
record AreParts (verb script file first s f : List ℕ) (n : ℕ) : Type 0 where
  verb_is : verb ≡ codes "packets"
  script_is : script ≡ s
  file_is : file ≡ f
  first_is : first ≡ decimal n

parts : (verb script file first s f : List ℕ) (n : ℕ) → IsPackets (verb ∷ script ∷ file ∷ first ∷ []) s f n → AreParts verb script file first s f n
parts verb script file first s f n is =
    let h : verb ∷ script ∷ file ∷ first ∷ [] ≡ codes "packets" ∷ s ∷ f ∷ decimal n ∷ [] = is.form in
    let a : verb ≡ codes "packets" = cc in
    let b : script ≡ s = cc in
    let c : file ≡ f = cc in
    let d : first ≡ decimal n = cc in
    record { verb_is = a; script_is = b; file_is = c; first_is = d }

pub no_packets : (verb script file first : List ℕ) → ¬ (verb ≡ codes "packets") → IsNoPackets (verb ∷ script ∷ file ∷ first ∷ [])
no_packets verb script file first other s f n is = other (parts verb script file first s f n is).verb_is

pub no_script : (verb script file first : List ℕ) → is_file script ≡ false → IsNoPackets (verb ∷ script ∷ file ∷ first ∷ [])
no_script verb script file first none s f n is = false≢true (sym none ∙ ap is_file (parts verb script file first s f n is).script_is ∙ is.script_file)

pub no_packets_file : (verb script file first : List ℕ) → is_file file ≡ false → IsNoPackets (verb ∷ script ∷ file ∷ first ∷ [])
no_packets_file verb script file first none s f n is = false≢true (sym none ∙ ap is_file (parts verb script file first s f n is).file_is ∙ is.packets_file)

pub no_first : (verb script file first : List ℕ) → ((n : ℕ) → n < 2 ^ 64 → first ≡ decimal n → ⊥) → IsNoPackets (verb ∷ script ∷ file ∷ first ∷ [])
no_first verb script file first none s f n is = let most = is.most in none n (omega (arith, most)) (parts verb script file first s f n is).first_is

pub not_first : (verb script file first : List ℕ) (m : ℕ) → first ≡ decimal m → m < 2 ^ 64 → (m < 1) ⊎ ((1 ≤ m) × (2 ^ 47 < m)) → IsNoPackets (verb ∷ script ∷ file ∷ first ∷ [])
not_first verb script file first m is_first fits out s f n is = by out
  where
    most : n < 2 ^ 64
    most = let few = is.most in omega (arith, few)

    same : m ≡ n
    same = decimal_injective m n fits most (sym is_first ∙ (parts verb script file first s f n is).first_is)

    by : (m < 1) ⊎ ((1 ≤ m) × (2 ^ 47 < m)) → ⊥
    by (inl few) = let least = is.least in absurd (omega (arith, few, least, same))
    by (inr many) = let high = is.most in absurd (omega (arith, many.1, high, same))

pub says_packets : (verb script file first s f : List ℕ) (n : ℕ) → verb ≡ codes "packets" → is_file script ≡ true → s ≡ script → is_file file ≡ true → f ≡ file → first ≡ decimal n → 1 ≤ n → n ≤ 2 ^ 47 → IsPackets (verb ∷ script ∷ file ∷ first ∷ []) s f n
says_packets verb script file first s f n is_packets script_file script_is packets_file file_is first_is least most = record {
  form =
      ap (λ v. v ∷ script ∷ file ∷ first ∷ []) is_packets ∙ ap (λ v. codes "packets" ∷ v ∷ file ∷ first ∷ []) (sym script_is) ∙ ap (λ v. codes "packets" ∷ s ∷ v ∷ first ∷ []) (sym file_is)
      ∙ ap (λ v. codes "packets" ∷ s ∷ f ∷ v ∷ []) first_is;
  script_file = ap is_file script_is ∙ script_file;
  packets_file = ap is_file file_is ∙ packets_file;
  least = least;
  most = most;
}
