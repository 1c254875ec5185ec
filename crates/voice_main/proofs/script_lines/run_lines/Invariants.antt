use Rattle.std.proofs.Common.{◌≡◌, ℕ, Some, length}
use Rattle.std.specs.Prelude.{IsTrue}
use Rattle.voice_model.specs.State.{State}
use Rattle.voice_model.specs.Image.{opened_from}
use Rattle.voice_store.specs.Facts.{GoesOn}
use Rattle.voice_store.specs.Shown.{Keeps, history_of, tapes_in}
use Rattle.serving_laws.specs.Lanes.{IsAtRest}
use Rattle.served_files.specs.Given.{FeedsAlone}
use Rattle.voice_main.specs.Done.{AreGiven}
use Rattle.voice_main.proofs.Reached.{IsAt}
use Rattle.voice_main.proofs.script_lines.run_lines.Given as goal

abbrev pub invariant-loop-line : goal.invariant-loop-line
invariant-loop-line g l = record {
  tapes : tapes_in l.store ≡ l.tapes;
  origin : l.store.origin ≡ l.fn.store.origin;
  stands : (first : State) → Keeps g.D.Disk.told first l.fn.store → Keeps g.D.Disk.told first l.store;
  goes : GoesOn (g.D.Disk.told l.fn.store.disk) (g.D.Disk.told l.store.disk);
  callers : length l.variables.items ≡ l.script.callers;
  lists : length l.heard.items ≡ l.script.callers;
  reaches : IsAt l.tapes l.script.lines l.line-index (history_of l.store) l.variables.items l.heard.items;
  bytes : IsTrue (g.D.Disk.told l.fn.store.origin).honest → (first : State) → opened_from (g.D.Disk.told l.fn.store.origin).bytes ≡ Some first → Keeps g.D.Disk.told first l.fn.store → ((lane : ℕ) → IsAtRest first lane)
      → ((c : ℕ) → FeedsAlone l.script.lines c (history_of l.store)) → AreGiven first l.tapes (history_of l.store) l.heard.items;
}
