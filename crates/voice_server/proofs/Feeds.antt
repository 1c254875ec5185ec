-- One turn with a Feed, and windows that are taken back.
use Rattle.std.proofs.Common.{◌≡◌, ℕ, Bool, List, [], ◌∷◌, ◌++◌, length, drop, Some, IsTrue, refl, sym, ap, subst, ◌∙◌}
use Rattle.std.specs.Prelude.{Result, Ok, Err, IfOk, OnErr}
use Rattle.voice_units.specs.declared.errors.NoMemory.{NoMemory}
use Rattle.voice_outside.specs.Disk.{Told}
use Rattle.voice_model.specs.State.{State}
use Rattle.voice_model.specs.Step.{after}
use Rattle.voice_model.specs.Valid.{IsState}
use Rattle.voice_model.specs.Image.{opened_from}
use Rattle.voice_model.specs.declared.calls.Reply.{Reply}
use Rattle.voice_model.specs.declared.calls.Entry.{Entry}
use Rattle.players.specs.Players.{PlayerState}
use Rattle.voice_store.specs.Facts.{entry_of}
use Rattle.voice_store.specs.Shown.{Shown, Keeps, history_of, state_of}
use Rattle.turnstile.specs.Histories.{entries_of}
use Rattle.turnstile.specs.Passes.{mine, made_with}
use Rattle.turnstile.specs.declared.parts.Pass.{Pass}
use Rattle.voice_server.specs.declared.born.Born.{Born}
use Rattle.voice_server.specs.declared.hall.Hall.{Hall}
use Rattle.voice_server.specs.declared.standing.Standing.{Standing}
use Rattle.voice_server.specs.Kept.{IsKept, origin_of}
use Rattle.voice_server.specs.Served.{store_of, tapes_of, feed_of, HasWindow, HearsPassage, IsHinted, TellsStop, AddsFeed, IsSpared}
use Rattle.voice_server.proofs.Adds.{Turned, drop_front, own}

module _ {D : Type 0} (told : D → Told) (server : Hall (Standing D) (Born D)) where
  -- the server's disk was opened as what the store's history begins from
  same_first : (old : Shown D) → (k : IsKept told old) → origin_of (record { store = old }) ≡ origin_of (made_with server.turnstile)
      → IsTrue (told (store_of server).origin).honest → (first : State) → opened_from (told (store_of server).origin).bytes ≡ Some first → (IsTrue (told old.disk).honest × (k.first ≡ first))
  same_first old k same honest first opened =
      let disk : old.origin ≡ (store_of server).origin = ap (λ (b : Born D). b.disk) same in
      let was : IsTrue (told old.origin).honest = subst (λ d. IsTrue (told d).honest) (sym disk) honest in
      let now : IsTrue (told old.disk).honest = subst (λ (h : Bool). IsTrue h) (sym k.goes.honest) was in
      let both : Some k.first ≡ Some first = sym (k.opened was) ∙ ap (λ d. opened_from (told d).bytes) disk ∙ opened in
      let one : k.first ≡ first = cc in
      (now, one)

  -- what holds of the state after the store's history, told of what the server's disk was opened as
  told_on : (P : State → Type 0) (old : Shown D) → (k : IsKept told old) → origin_of (record { store = old }) ≡ origin_of (made_with server.turnstile) → (IsTrue (told old.disk).honest → P (state_of k.first old))
      → IsTrue (told (store_of server).origin).honest → (first : State) → opened_from (told (store_of server).origin).bytes ≡ Some first → P (after first (tapes_of server) (history_of old))
  told_on P old k same holds honest first opened =
      let r = same_first old k same honest first opened in
      subst (λ (f : State). P (after f (tapes_of server) (history_of old))) r.1
      (subst (λ (t : List (List ℕ)). P (after k.first t (history_of old))) (ap (λ (b : Born D). b.tapes) same) (holds r.0))

  heard_on : (old : Shown D) (player : PlayerState) (reply : Reply) → IsKept told old → origin_of (record { store = old }) ≡ origin_of (made_with server.turnstile)
      → (IsTrue (told old.disk).honest → (first : State) → Keeps told first old → HearsPassage (state_of first old) reply player)
      → IsTrue (told (store_of server).origin).honest → (first : State) → opened_from (told (store_of server).origin).bytes ≡ Some first → HearsPassage (after first (tapes_of server) (history_of old)) reply player
  heard_on old player reply k same samples = told_on (λ s. HearsPassage s reply player) old k same (λ now. samples now k.first k.keeps)

  pub fed : (player new_player : PlayerState) (p q : Pass (Standing D) (Born D)) (old : Shown D) (new : List Entry) (by caller ack : ℕ) (r : Result Reply NoMemory) → caller ≡ by → Turned p q by (history_of old) new
      → IsKept told old → origin_of (record { store = old }) ≡ origin_of (made_with server.turnstile)
      → IfOk r (λ reply. new ≡ history_of old ++ entry_of caller (feed_of player) reply ack ∷ [])
      → new_player.lane ≡ player.lane → IfOk r (λ reply. HasWindow reply new_player) → (IsHinted player.lease → IfOk r TellsStop)
      → (IsTrue (told old.disk).honest → (first : State) → Keeps told first old → IfOk r (λ reply. HearsPassage (state_of first old) reply new_player))
      → IfOk r (λ reply. AddsFeed told server player reply p q new_player)
  fed player new_player p q old new by caller ack (Ok reply) same t k origin is lane window hinted samples =
      let e : Entry = entry_of caller (feed_of player) reply ack in
      record {
        adds = record {
          entry = e;
          caller = same ∙ t.caller;
          call_is = refl;
          reply_is = refl;
          gained = t.gained ∙ ap (λ l. mine p ++ l) (ap (λ l. entries_of by (drop (length (history_of old)) l)) is ∙ ap (entries_of by) (drop_front (history_of old) (e ∷ [])) ∙ own by e same);
          before = history_of old;
          last = t.seen_is ∙ is;
          grown = t.begins;
        };
        lane = lane;
        window = window;
        hinted = hinted;
        samples = heard_on old new_player reply k origin samples;
        valid = told_on IsState old k origin (λ now. k.keeps.stood.upright.valid);
      }
  fed player new_player p q old new by caller ack (Err e) same t k origin is lane window hinted samples = tt

pub spared : (A : Type 0) (old new : PlayerState) (r : Result Reply NoMemory) → OnErr r A → OnErr r (IsSpared old new) → OnErr r (A × IsSpared old new)
spared A old new (Ok reply) a b = tt
spared A old new (Err e) a b = (a, b)
