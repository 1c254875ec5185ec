-- What a change that is ready gives.
use Rattle.std.proofs.Common.{◌≡◌, ℕ, true, false, Bool, List, [], refl, ◌∙◌, ap}
use Rattle.std.specs.Prelude.{is_some}
use Rattle.voice_units.specs.declared.pieces.Piece.{Piece}
use Rattle.voice_units.specs.Spots.{Spot}
use Rattle.voice_model.specs.State.{Durable}
use Rattle.voice_model.specs.Replay.{Rebuilt, is_legal, brings}
use Rattle.voice_model.specs.declared.changes.Change.{Change}
use Rattle.voice_model.specs.declared.changes.Change.TheVariants as changes
use Rattle.recovery.specs.declared.parts.Parts.{Parts}
use Rattle.running_tables.specs.Running.{Runs}
use Rattle.ready_changes.specs.Ready.{Does, IsReady}
use Rattle.ready_changes.specs.declared.Act.{Act}
use Rattle.ready_changes.specs.declared.Act.TheVariants as acts
use Rattle.ready_changes.specs.declared.ReadyChange.{ReadyChange}
use Rattle.next_changes.specs.declared.NextChange.{NextChange}
use Rattle.next_changes.specs.declared.NextChange.TheVariants.{Rope, Other}
use Rattle.next_changes.specs.Next.{IsOther, IsNext}
use Rattle.next_changes.specs.Laws.{IsGiven}

-- whether a change brings a rope
abbrev pub brings_rope : Change → Bool
brings_rope (changes.Recorded id len addresses) = true
brings_rope (changes.Wide id len addresses) = true
brings_rope (changes.Edited id pieces) = true
brings_rope _ = false

-- a change of rows, of the moment or of a sweep has an effect, and brings no rope
pub record IsPlain (c : Change) : Type 0 where
  pub kind : is_some (brings c) ≡ true
  pub no_rope : brings_rope c ≡ false

by_change : (c d : Change) → c ≡ d → is_some (brings d) ≡ true → brings_rope d ≡ false → IsPlain c
by_change c d e kind none = record { kind = ap (λ x. is_some (brings x)) e ∙ kind; no_rope = ap brings_rope e ∙ none }

pub plain : (spare : ℕ) (d : Durable Spot) (act : Act) (c : Change) → Does spare d act c → IsPlain c
plain spare d (acts.Retain row) c does = by_change c (changes.Retained row.class row.key row.rope row.note) does.is refl refl
plain spare d (acts.Forget class key) c does = by_change c (changes.Forgotten class key) does refl refl
plain spare d (acts.Count going) c does = by_change c (changes.Census does.keys) does.is refl refl
plain spare d (acts.Sweep going ids) c does = by_change c (changes.Swept ids) does.is refl refl
plain spare d (acts.Advance moment) c does = by_change c (changes.Advanced moment) does refl refl

pub other_next : (held : List (List Piece)) (takings : List ℕ) (parts : Parts) (b : Rebuilt) (ready : ReadyChange) (c : Change) → Runs held [] takings parts b → is_legal b c ≡ true → IsReady parts.interests.spare b.kept ready c → IsOther held takings parts b ready c
other_next held takings parts b ready c runs legal is = record { runs = runs; legal = legal; kind = (plain parts.interests.spare b.kept ready.act c is.does).kind; ready = is }

pub given : (held : List (List Piece)) (takings : List ℕ) (parts : Parts) (b : Rebuilt) (next : NextChange) (c : Change) → IsNext held takings parts b next c → IsGiven held takings parts b next c
given held takings parts b (Rope rope) c h = record { runs = h.runs; legal = h.legal; kind = h.kind; grammar = h.grammar; payload = h.payload }
given held takings parts b (Other other) c h = record { runs = h.runs; legal = h.legal; kind = h.kind; grammar = h.ready.grammar; payload = h.ready.payload }
