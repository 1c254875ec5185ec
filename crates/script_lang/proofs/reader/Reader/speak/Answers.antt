use Rattle.std.proofs.Common.{sym, ap, ◌∙◌, ℕ, Option}
use Rattle.script_lang.specs.Verbs.{verbs_of}
use Rattle.script_lang.specs.Shown.{Reading}
use Rattle.script_lang.specs.Owners.{is_owned, with_owner}
use Rattle.script_lang.specs.Reading.{line_read, spoken_of}
use Rattle.script_lang.proofs.Speaking.{served_small, speaks_owned, speaks_taken, speaks_line, known_stays}
use Rattle.script_lang.proofs.reader.Reader.speak.Goals as goal

pub is_taken-requires : goal.is_taken-requires
is_taken-requires c = served_small (verbs_of c.args.built) c.self.inside.samples c.new-words.result c.in_ok-spoken.spoken c.served.result c.in_ok-spoken.ensures c.served.ensures

pub note-requires : goal.note-requires
note-requires c = served_small (verbs_of c.args.built) c.self.inside.samples c.new-words.result c.in_ok-spoken.spoken c.served-lane.result c.in_ok-spoken.ensures c.served-lane.ensures

pub invariant_of-self-2 : goal.invariant_of-self-2
invariant_of-self-2 c =
    let s = c.in_ok-spoken.spoken in
    speaks_owned (verbs_of c.args.built) c.self.inside.samples c.new-words.result s c.args.number c.self.inside.owners c.note.new.self c.self.inside.lines.items c.push.new.self.items c.in_ok-spoken.ensures c.self.invariant
    (ap (λ (o : Option ℕ). is_owned c.self.inside.owners s.caller o) (sym c.served.ensures) ∙ sym c.is_taken.ensures ∙ c.if-is_taken.false)
    (c.note.ensures ∙ ap (λ (o : Option ℕ). with_owner c.self.inside.owners s.caller o) c.served-lane.ensures)
    c.in_ok-push.ensures.items

pub returns-clause-read : goal.returns-clause-read
returns-clause-read c =
    let s = c.in_ok-spoken.spoken in
    let r : Reading = record { lines = c.self.inside.lines.items; samples = c.self.inside.samples; callers = c.self.inside.callers } in
    ap (λ (q : Reading). line_read (verbs_of c.args.built) c.args.number q c.args.line.now) (sym c.self.view_is)
    ∙ speaks_line (verbs_of c.args.built) c.args.number r c.args.line.now s c.self.inside.owners c.push.new.self.items c.mention.new.self c.max-self-inside.result
    (ap (λ w. spoken_of (verbs_of c.args.built) r.samples w) (sym c.new-words.ensures) ∙ c.in_ok-spoken.ensures)
    c.self.invariant
    (ap (λ (o : Option ℕ). is_owned c.self.inside.owners s.caller o) (sym c.served.ensures) ∙ sym c.is_taken.ensures ∙ c.if-is_taken.false)
    c.in_ok-push.ensures.items
    c.in_ok-mention.ensures.ok
    c.max-self-inside.ensures

pub returns-then-is_taken-clause-read : goal.returns-then-is_taken-clause-read
returns-then-is_taken-clause-read c =
    let s = c.in_ok-spoken.spoken in
    let r : Reading = record { lines = c.self.inside.lines.items; samples = c.self.inside.samples; callers = c.self.inside.callers } in
    ap (λ (q : Reading). line_read (verbs_of c.args.built) c.args.number q c.args.line.now) (sym c.self.view_is)
    ∙ speaks_taken (verbs_of c.args.built) c.args.number r c.args.line.now s c.self.inside.owners
    (ap (λ w. spoken_of (verbs_of c.args.built) r.samples w) (sym c.new-words.ensures) ∙ c.in_ok-spoken.ensures)
    c.self.invariant
    (ap (λ (o : Option ℕ). is_owned c.self.inside.owners s.caller o) (sym c.served.ensures) ∙ sym c.is_taken.ensures ∙ c.if-is_taken.true)

pub mention-requires : goal.mention-requires
mention-requires c = known_stays (verbs_of c.args.built) c.self.inside.samples c.new-words.result c.in_ok-spoken.spoken c.is_known-known.result c.count.result c.in_ok-spoken.ensures c.is_known-known.ensures c.count.ensures
