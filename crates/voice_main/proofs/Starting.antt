-- A sender follows a store from its opening on.
use Rattle.std.proofs.Common.{◌≡◌, ℕ, zero, suc, List, [], replicate, Some, None, sym, refl, ◌∙◌, ap, subst}
use Rattle.std.specs.Prelude.{IsTrue}
use Rattle.voice_units.specs.declared.shapes.Shape.{Shape}
use Rattle.voice_outside.specs.Disk.{Told}
use Rattle.voice_model.specs.Samples.{spot_of}
use Rattle.voice_model.specs.State.{State, LaneState, quiet_lane}
use Rattle.voice_model.specs.Step.{after}
use Rattle.voice_model.specs.Replay.{Rebuilt, durable_by}
use Rattle.voice_model.specs.Image.{Reading, reading, opened_by, opened_from}
use Rattle.voice_model.specs.Valid.{Every}
use Rattle.recovery.specs.declared.parts.Parts.{Parts}
use Rattle.recovery.specs.Shown.{Shows, IsParts}
use Rattle.running_tables.specs.Running.{passages_of}
use Rattle.row_calls.specs.Asked.{Tells}
use Rattle.next_ropes.specs.Copies.{IsAlike}
use Rattle.next_ropes.proofs.Performed.{alike_shows}
use Rattle.voice_store.specs.Shown.{Shown, Keeps, state_of, history_of, tapes_in}
use Rattle.voice_store.specs.Stood.{ShowsState}
use Rattle.voice_store.proofs.Refused.{shows_state}
use Rattle.voice_server.specs.Kept.{IsKept}
use Rattle.mirror_sender.specs.Abreast.{Starts}

-- no lane plays or records, and nothing is in doubt
record IsIdle (s : State) : Type 0 where
  passages : passages_of s.lanes ≡ []
  quiet : Every (λ (lane : LaneState). lane.taking ≡ None) s.lanes
  sure : s.doubt ≡ None

no_passages : (n : ℕ) → passages_of (replicate n quiet_lane) ≡ []
no_passages zero = refl
no_passages (suc n) = no_passages n

all_quiet : (n : ℕ) → Every (λ (lane : LaneState). lane.taking ≡ None) (replicate n quiet_lane)
all_quiet zero = tt
all_quiet (suc n) = (refl, all_quiet n)

state_same : (s t : State) → Some s ≡ Some t → s ≡ t
state_same s t e = cc

idle_by : (image : List ℕ) (read : Reading) (s : State) → opened_by image read ≡ Some s → IsIdle s
idle_by image (Reading.Reads journal r) s h = subst IsIdle (state_same _ s h) (record { passages = no_passages r.shape.lanes; quiet = all_quiet r.shape.lanes; sure = refl })
idle_by image (Reading.Bad place) s h = cc

-- the tables of an opening show what was rebuilt, and so does a copy of them
pub copy_tells : (shape : Shape) (parts copy : Parts) → IsParts shape parts → IsAlike parts copy → (b : Rebuilt) × Tells [] copy b × (b.shape ≡ shape)
copy_tells shape parts copy h alike = (
  h.what,
  record { kept = alike_shows [] h.what.kept parts copy alike h.shows.kept; in_form = alike.form ∙ h.shows.in_form; valid = h.shows.valid },
  h.in_shape,
)

same_first : (image : List ℕ) (s t : State) → opened_from image ≡ Some s → opened_from image ≡ Some t → s ≡ t
same_first image s t p q = state_same s t (sym p ∙ q)

-- on an honest disk they show the state as which its bytes open
pub copy_starts :
    {D : Type 0} (told : D → Told) (store : Shown D) (start : State) (shape : Shape) (parts copy : Parts) → IsKept told store → history_of store ≡ [] → IsTrue (told store.origin).honest → opened_from (told store.origin).bytes ≡ Some start
    → ((first : State) → Keeps told first store → (state_of first store).doubt ≡ None → ShowsState parts (state_of first store)) → ((first : State) → Keeps told first store → (state_of first store).kept.shape ≡ shape) → IsAlike parts copy → Starts shape copy start
copy_starts {D} told store start shape parts copy kept fresh honest opened shows in_shape alike =
    subst (λ s. Starts shape copy s) there (record {
      valid = keeps.stood.upright.valid;
      in_shape = in_shape kept.first keeps;
      shows = subst (λ h. Shows h copy (durable_by spot_of (state_of kept.first store).kept)) none_held
          (alike_shows shown.held (durable_by spot_of (state_of kept.first store).kept) parts copy alike (shows_state shown.held shown.fill shown.rebuilt (state_of kept.first store) parts shown.fills shown.tables.kept));
      form = alike.form ∙ shown.tables.in_form ∙ shown.fills.form;
      quiet = idle.quiet;
      sure = idle.sure;
    })
  where
    keeps : Keeps told kept.first store
    keeps = kept.keeps

    there : state_of kept.first store ≡ start
    there = ap (after kept.first (tapes_in store)) fresh ∙ same_first (told store.origin).bytes kept.first start (kept.opened honest) opened

    idle : IsIdle (state_of kept.first store)
    idle = subst IsIdle (sym there) (idle_by (told store.origin).bytes (reading (told store.origin).bytes) start opened)

    shown : ShowsState parts (state_of kept.first store)
    shown = shows kept.first keeps idle.sure

    none_held : shown.held ≡ []
    none_held = shown.holding.passages ∙ idle.passages
