use Rattle.std.proofs.Common.{rules, ◌≡◌, [], Some, None, refl, sym, ◌∙◌, ap}
use Rattle.voice_model.specs.State.{row_at}
use Rattle.voice_store.specs.Stood.{last_of, tapes_of}
use Rattle.voice_store.proofs.Refused.{stood_shows, missing_refused}
use Rattle.voice_store.proofs.inside.Inside.tell_interest.Goals as goal

pub returns-in-Some-clause-stood : goal.returns-in-Some-clause-stood
returns-in-Some-clause-stood g c =
    λ first t0 stood.
    let s = c.args.self.now in
    let shows = stood_shows first t0 (g.D.Disk.told c.args.disk.now) s stood in
    let is : row_at s.parts.interests.rows c.args.class c.args.key ≡ Some c.in-Some.row = search rules in
    c.tell_found.ensures.stood first t0 stood (c.in-Some.row, sym (ap (λ rows. row_at rows c.args.class c.args.key) shows.rows) ∙ is, refl, refl)

pub returns-in-None-clause-stood : goal.returns-in-None-clause-stood
returns-in-None-clause-stood g c =
    λ first t0 stood.
    let s = c.args.self.now in
    let shows = stood_shows first t0 (g.D.Disk.told c.args.disk.now) s stood in
    let is : row_at s.parts.interests.rows c.args.class c.args.key ≡ None = search rules in
    c.refuse.ensures.stood first t0 stood refl (missing_refused (last_of first s) (tapes_of s) c.args.class c.args.key (sym (ap (λ rows. row_at rows c.args.class c.args.key) shows.rows) ∙ is))
