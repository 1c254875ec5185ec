use Rattle.std.proofs.Common.{◌≡◌, ◌⊎◌, inl, inr, ℕ, ◌++◌, List, [], ◌∷◌, refl, sym, ◌∙◌, ap, append_assoc}
use Rattle.std.specs.Prelude.{codes, decimal}
use Rattle.std.proofs.lemmas.Slice.{pushed}
use Rattle.std.proofs.lemmas.Slice.Zip.{either_empty_from_Zip}
use Rattle.mirror_packets.specs.Packets as spec
use Rattle.mirror_packets.specs.declared.packets.Packet.{Packet}
use Rattle.mirror_packets.specs.Shown.{packets_of}
use Rattle.voice_mirror.specs.declared.answers.Taken.{Taken}
use Rattle.mirror_commands.specs.Texts.{packet_lines}
use Rattle.mirror_commands.proofs.texts.text_of.Goals as goal

no_answers : (packets : List spec.Packet) → packet_lines packets [] ≡ []
no_answers [] = refl
no_answers (packet ∷ packets) = refl

-- no line is left where one of the two lists is at its end
no_lines : (packets : List Packet) (answers : List Taken) → (packets ≡ []) ⊎ (answers ≡ []) → packet_lines (packets_of packets) answers ≡ []
no_lines packets answers (inl none) = ap (λ (ps : List Packet). packet_lines (packets_of ps) answers) none
no_lines packets answers (inr none) = ap (λ (l : List Taken). packet_lines (packets_of packets) l) none ∙ no_answers (packets_of packets)

append_nil : (xs : List ℕ) → xs ++ [] ≡ xs
append_nil [] = refl
append_nil (x ∷ xs) = ap (λ (l : List ℕ). x ∷ l) (append_nil xs)

-- the lines so far are all, and the position stands behind them
whole : (lines text rest line new : List ℕ) (position : ℕ) → lines ≡ text ++ rest → rest ≡ [] → line ≡ codes "position " ++ (decimal position ++ 10 ∷ []) → new ≡ text ++ line → new ≡ lines ++ codes "position " ++ decimal position ++ 10 ∷ []
whole lines text rest line new position is none line_is new_is =
    let all : lines ≡ text = is ∙ ap (λ (l : List ℕ). text ++ l) none ∙ append_nil text in
    new_is ∙ ap (λ (l : List ℕ). text ++ l) line_is ∙ ap (λ (l : List ℕ). l ++ (codes "position " ++ (decimal position ++ 10 ∷ []))) (sym all) ∙ simp append_assoc

pub returns : goal.returns
returns c =
    let s = c.loop-packet.packet-iterator in
    whole (packet_lines (packets_of c.args.packets.now) c.args.answers.now) c.loop-packet.text.items (packet_lines (packets_of s.a.rest.now) s.b.rest.now) c.as_bytes.result.now c.extend_from_slice.new.self.items c.args.position
    c.loop-packet.invariant (no_lines s.a.rest.now s.b.rest.now (either_empty_from_Zip s c.next.new.self c.next.result c.in-None.is c.next.ensures.steps)) (c.as_bytes.ensures.value ∙ c.in_ok-line.ensures.ok)
    (pushed c.as_bytes.result.now refl c.in_ok-extend_from_slice.was c.extend_from_slice.ensures.items)
