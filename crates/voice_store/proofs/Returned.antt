-- A lease that is taken back without a Feed.
use Rattle.std.proofs.Common.{◌≡◌, ◌+◌, ℕ, Bool, List, Some, length, refl, sym, ◌∙◌, ap, subst}
use Rattle.voice_outside.specs.Disk.{Told}
use Rattle.voice_model.specs.State.{State, lane_at}
use Rattle.running_tables.specs.Running.{Runs}
use Rattle.frame_pool.specs.Pool.{Identity}
use Rattle.play_queue.specs.declared.jobs.Job.{Job}
use Rattle.play_queue.specs.Queued.{lane_of}
use Rattle.playing.specs.Frames.{ChangesLaneAlone, resident_at}
use Rattle.playing.specs.Held.{held_by}
use Rattle.playing.specs.Lanes.{LanesState}
use Rattle.playing.specs.Shown.{ShowsLane}
use Rattle.playing.specs.declared.blocks.Block.{Block}
use Rattle.voice_store.specs.declared.inside.Inside.{Inside}
use Rattle.voice_model.specs.declared.calls.Entry.{Entry}
use Rattle.voice_store.specs.Shown.{FaultsCover, Stands}
use Rattle.voice_store.specs.Turns.{ShortTurns}
use Rattle.std.specs.Arc.{arc_value}
use Rattle.voice_store.specs.Stood.{tapes_of, Stood}
use Rattle.voice_store.proofs.Served.{stood_refilled}

-- the jobs stay, and frames change in what one lane reads
pub stood_back : (first : State) (t0 : ℕ) (disk : Told) (s : Inside) (lanes : LanesState) (l : ℕ) → lanes.queues ≡ s.lanes.queues → ChangesLaneAlone s.lanes.frames lanes.frames l → Stood first t0 disk s → Stood first t0 disk (record s { lanes = lanes })
stood_back first t0 disk s lanes l queues frames stood =
    stood_refilled first t0 disk s lanes stood
    (λ fill pledged takings made b t st. record {
      shows = record {
        spots = st.shows.spots;
        many = st.shows.many ∙ ap length (sym queues);
        shape = st.shows.shape ∙ ap length (sym queues);
        block = ap (λ (p : Identity). p.sizes.block) frames.keeper.pool ∙ st.shows.block;
        jobs = λ k less. subst (λ (qs : List (List Job)). ShowsLane fill (lane_of qs k) (lane_at t k)) (sym queues) (st.shows.jobs k less);
        number = st.shows.number;
      };
      runs = subst (λ (qs : List (List Job)). Runs (held_by qs) pledged takings s.parts b) (sym queues) st.runs;
      kept = st.kept;
      used = λ f d is. st.used f d (subst (λ r. resident_at r f ≡ Some d) frames.resident is);
    })
    (λ h bytes there was. frames.bytes bytes was)

pub stands_back : (first : State) (origin disk : Told) (s s' : Inside) (wanted : Bool) → s'.history.items ≡ s.history.items → s'.tapes ≡ s.tapes → ((t0 : ℕ) → Stood first t0 disk s → Stood first t0 disk s') → Stands first origin disk s wanted → Stands first origin disk s' wanted
stands_back first origin disk s s' wanted items tapes stood stands = record {
  stood = stood (origin.calls + 1) stands.stood;
  faults = subst (λ (l : List Entry). FaultsCover origin.faults l disk.faults) (sym items) stands.faults;
  size = stands.size;
  honest = stands.honest;
  turns = λ none. subst (λ t. ShortTurns first t (origin.calls + 5) s'.history.items disk.calls) (sym (ap arc_value tapes))
      (subst (λ (l : List Entry). ShortTurns first (tapes_of s) (origin.calls + 5) l disk.calls) (sym items) (stands.turns none));
}
