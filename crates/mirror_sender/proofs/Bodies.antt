-- The bodies of packets: how long they are, and which bytes they are.
use Rattle.std.proofs.Common.{◌≡◌, ℕ, ◌+◌, ◌*◌, ◌≤◌, ◌<◌, ◌^◌, ◌==◌, Bool, true, false, cond, List, [], ◌∷◌, ◌++◌, map, length, Some, None, refl, sym, ◌∙◌, ap, ap₂, subst, arith}
use Rattle.std.specs.Prelude.{flat_map}
use Rattle.voice_units.specs.declared.pieces.Piece.{Piece}
use Rattle.voice_units.specs.declared.pieces.Take.{Take}
use Rattle.voice_units.specs.Spots.{spots_from, samples_in}
use Rattle.voice_model.specs.Samples.{Tagged, spot_of, bytes_of, recording, recorded_from}
use Rattle.voice_model.specs.State.{Durable, Effect}
use Rattle.voice_model.specs.State.Effect.{Recorded, Edited, Retained, Forgotten, Counted, Swept, Advanced}
use Rattle.voice_model.specs.Spelling.{spelling, keeps_grammar, pieces_bytes}
use Rattle.voice_model.specs.Replay.{durable_by}
use Rattle.voice_model.specs.Base.{change_of}
use Rattle.voice_model.specs.declared.changes.Change.{Change}
use Rattle.voice_model.specs.declared.changes.Change.TheVariants as changes
use Rattle.mirror_packets.specs.Packets.{Body, body_spelling, is_followed}
use Rattle.mirror_packets.proofs.Lengths.{change_length}
use Rattle.change_codec.proofs.Sizes.{pieces_length}
use Rattle.ready_changes.specs.Ready.{IsReady, Does}
use Rattle.ready_changes.specs.declared.Act.{Act}
use Rattle.ready_changes.specs.declared.Act.TheVariants as acts
use Rattle.ready_changes.specs.declared.ReadyChange.{ReadyChange}
use Rattle.next_ropes.proofs.Readied.{recorded_samples}
use Rattle.mirror_packets.specs.Effects.{body_of_effect}
use Rattle.mirror_sender.specs.Coming.{IsEdit, IsVoice, IsNextOf, body_size, bytes_taken}
use Rattle.mirror_sender.specs.declared.coming.Next.{Next}
use Rattle.mirror_sender.specs.declared.coming.Next.TheVariants as nexts

-- a change that an act does is one of those that packets bring
pub act_followed : (spare : ℕ) (own : Durable Tagged) (act : Act) (c : Change) → Does spare (durable_by spot_of own) act c → is_followed c ≡ true
act_followed spare own (acts.Retain row) c h = ap is_followed h.is
act_followed spare own (acts.Forget class key) c h = ap is_followed h
act_followed spare own (acts.Count going) c h = ap is_followed h.is
act_followed spare own (acts.Sweep going ids) c h = ap is_followed h.is
act_followed spare own (acts.Advance moment) c h = ap is_followed h

-- the body of an effect whose change packets bring is that change
pub body_other : (e : Effect Tagged) → is_followed (change_of 2 [] e) ≡ true → body_of_effect e ≡ Body.Other (change_of 2 [] e)
body_other (Recorded id samples) h = cc
body_other (Edited id samples) h = refl
body_other (Retained row) h = refl
body_other (Forgotten class key) h = refl
body_other (Counted keys) h = refl
body_other (Swept ids) h = refl
body_other (Advanced moment) h = refl

-- ---- how long they are

pub voice_samples : (own : Durable Tagged) (tapes : List (List ℕ)) (pieces : List Piece) (takes : List Take) (e : Effect Tagged) → IsVoice own tapes pieces takes e → samples_in pieces ≡ length (bytes_taken tapes takes)
voice_samples own tapes pieces takes e h = recorded_samples own.next (length (bytes_taken tapes takes)) pieces h.same

pub voice_short : (own : Durable Tagged) (tapes : List (List ℕ)) (pieces : List Piece) (takes : List Take) (e : Effect Tagged) → IsVoice own tapes pieces takes e → 9 + samples_in pieces < 2 ^ 32
voice_short own tapes pieces takes e h = let same = voice_samples own tapes pieces takes e h in let long = h.long in omega (arith, same, long)

pub other_short : (own : Durable Tagged) (spare : ℕ) (ready : ReadyChange) (e : Effect Tagged) → IsReady spare (durable_by spot_of own) ready (change_of 2 [] e) → length ready.payload.items < 2 ^ 30
other_short own spare ready e h = subst (λ (l : List ℕ). length l < 2 ^ 30) (sym h.payload) (change_length (change_of 2 [] e) (act_followed spare own ready.act (change_of 2 [] e) h.does) h.grammar)

-- ---- which bytes they are

bytes_again : (file place : ℕ) (bytes : List ℕ) → bytes_of (recorded_from file place bytes) ≡ bytes
bytes_again file place [] = refl
bytes_again file place (b ∷ bytes) = ap (λ l. b ∷ l) (bytes_again file (place + 1) bytes)

pub edit_body : (own : Durable Tagged) (pieces : List Piece) (e : Effect Tagged) (id : ℕ) → IsEdit own pieces e → id ≡ own.next → body_spelling (body_of_effect e) ≡ spelling (changes.Edited id pieces)
edit_body own pieces e id h same = ap (λ x. body_spelling (body_of_effect x)) h.is ∙ ap₂ (λ n l. spelling (changes.Edited n l)) (sym same) (sym h.same)

pub voice_body : (own : Durable Tagged) (tapes : List (List ℕ)) (pieces : List Piece) (takes : List Take) (e : Effect Tagged) (id : ℕ) → IsVoice own tapes pieces takes e → id ≡ own.next → body_spelling (body_of_effect e) ≡ body_spelling (Body.Voice id (bytes_taken tapes takes))
voice_body own tapes pieces takes e id h same =
    ap (λ x. body_spelling (body_of_effect x)) h.is ∙ ap₂ (λ n l. body_spelling (Body.Voice n l)) (sym same) (bytes_again own.next 0 (bytes_taken tapes takes))

pub other_body : (own : Durable Tagged) (spare : ℕ) (ready : ReadyChange) (e : Effect Tagged) → IsReady spare (durable_by spot_of own) ready (change_of 2 [] e) → body_spelling (body_of_effect e) ≡ ready.payload.items
other_body own spare ready e h = ap body_spelling (body_other e (act_followed spare own ready.act (change_of 2 [] e) h.does)) ∙ sym h.payload

pub edit_size : (id : ℕ) (pieces : List Piece) → length (spelling (changes.Edited id pieces)) ≡ 11 + 16 * length pieces
edit_size id pieces = let each = pieces_length pieces in omega (arith, each)

-- they are as long as their size says
pub body_long : (own : Durable Tagged) (tapes : List (List ℕ)) (spare : ℕ) (next : Next) (e : Effect Tagged) → IsNextOf own tapes spare next e → length (body_spelling (body_of_effect e)) ≡ body_size next
body_long own tapes spare (nexts.Edit pieces) e h = ap length (edit_body own pieces e own.next h refl) ∙ edit_size own.next pieces
body_long own tapes spare (nexts.Voice pieces takes) e h =
    let same = voice_samples own tapes pieces takes.items e h in
    let body = ap length (voice_body own tapes pieces takes.items e own.next h refl) in
    omega (arith, same, body)
body_long own tapes spare (nexts.Other ready) e h = ap length (other_body own spare ready e h)
