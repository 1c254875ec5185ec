use Rattle.std.proofs.Common.{sym, subst}
use Rattle.voice_model.specs.Valid.{Once}
use Rattle.recovery.specs.Gathered.{AreGoing}
use Rattle.recovery.proofs.parts.Parts.drop_rows.Goals as goal

pub returns-clause-shows : goal.returns-clause-shows
returns-clause-shows c held d h ordered graces =
    let gathered = c.in_ok-going.ensures (subst Once (sym h.rows) ordered.once) in
    c.drop_gathered.ensures.shows held d c.args.keys.now h ordered graces (subst (λ rows. AreGoing c.args.class c.args.keys.now rows c.in_ok-going.going) h.rows gathered)
