use Rattle.std.proofs.Common.{◌≡◌, sym, ◌∙◌, ap, subst}
use Rattle.voice_units.specs.declared.shapes.Shape.{Shape}
use Rattle.row_calls.specs.Asked.{IsAsked, IsBrief}
use Rattle.row_calls.specs.declared.outcomes.Asked.{Asked}
use Rattle.edits.proofs.Refusals.{journal_last}
use Rattle.voice_store.specs.Stood.{last_of, tapes_of}
use Rattle.voice_store.specs.Facts.{IsFault}
use Rattle.voice_store.proofs.Kept.{is_sure, same_shape}
use Rattle.voice_store.proofs.Making.{nothing_lands}
use Rattle.voice_store.proofs.Refused.{refused_plain}
use Rattle.voice_store.proofs.Altered.{told, asked_on, stood_on, alters, answers, plain_reply}
use Rattle.voice_store.proofs.Behind.{no_err, fits_rest}
use Rattle.voice_store.proofs.inside.Inside.alter.Goals as goal

pub ask-requires-clause-shown : goal.ask-requires-clause-shown
ask-requires-clause-shown g c =
    let s = c.args.self.now in
    let stood = c.requires.stood in
    let disk = g.D.Disk.told c.args.disk.now in
    (stood.2.held, stood.2.b, told stood.0 stood.1 disk s stood.2 c.requires.sure, ap (λ (x : Shape). x.graces) (same_shape stood.0 stood.1 disk s stood.2 c.requires.sure ∙ sym c.shape.ensures))

pub returns-in_err-why-clause-stood : goal.returns-in_err-why-clause-stood
returns-in_err-why-clause-stood g c = λ first t0 stood.
    let s = c.args.self.now in
    let disk = g.D.Disk.told c.args.disk.now in
    let last = last_of first s in
    let tables = told first t0 disk s stood c.requires.sure in
    let shows = asked_on first t0 disk s stood c.requires.sure c.ask.new.parts (c.ask.ensures.same stood.held stood.b.kept tables.kept) c.ask.ensures.form c.ask.ensures.blocks in
    stood_on first t0 disk s stood c.requires.sure c.ask.new.parts shows c.ask.ensures.blocks

pub returns-in_err-replies-in-Answered-clause-stood : goal.returns-in_err-replies-in-Answered-clause-stood
returns-in_err-replies-in-Answered-clause-stood g c = λ first t0 stood.
    let s = c.args.self.now in
    let disk = g.D.Disk.told c.args.disk.now in
    let last = last_of first s in
    let tables = told first t0 disk s stood c.requires.sure in
    let shows = asked_on first t0 disk s stood c.requires.sure c.ask.new.parts (c.ask.ensures.same stood.held stood.b.kept tables.kept) c.ask.ensures.form c.ask.ensures.blocks in
    stood_on first t0 disk s stood c.requires.sure c.ask.new.parts shows c.ask.ensures.blocks

pub returns-in_err-replies-in-Changes-clause-stood : goal.returns-in_err-replies-in-Changes-clause-stood
returns-in_err-replies-in-Changes-clause-stood g c = λ first t0 stood.
    let s = c.args.self.now in
    let disk = g.D.Disk.told c.args.disk.now in
    let last = last_of first s in
    let tables = told first t0 disk s stood c.requires.sure in
    let shows = asked_on first t0 disk s stood c.requires.sure c.ask.new.parts (c.ask.ensures.same stood.held stood.b.kept tables.kept) c.ask.ensures.form c.ask.ensures.blocks in
    stood_on first t0 disk s stood c.requires.sure c.ask.new.parts shows c.ask.ensures.blocks

pub returns-in-Refused-clause-cause : goal.returns-in-Refused-clause-cause
returns-in-Refused-clause-cause g c = λ fault.
    let first = c.requires.stood.0 in
    let t0 = c.requires.stood.1 in
    let stood = c.requires.stood.2 in
    let s = c.args.self.now in
    let disk = g.D.Disk.told c.args.disk.now in
    let last = last_of first s in
    let tables = told first t0 disk s stood c.requires.sure in
    let shows = asked_on first t0 disk s stood c.requires.sure c.ask.new.parts (c.ask.ensures.same stood.held stood.b.kept tables.kept) c.ask.ensures.form c.ask.ensures.blocks in
    let graces = ap (λ (x : Shape). x.graces) (stood.upright.seated.shape ∙ sym c.shape.ensures) in
    let asked = c.in_ok-why.ensures.asked stood.held stood.fill stood.b last (tapes_of s) stood.upright.fills.spots tables stood.upright.fills.kept stood.upright.fills.form stood.upright.valid graces in
    let is = subst (λ (a : Asked). IsAsked c.ask.new.parts stood.b last (tapes_of s) c.args.call a) c.in-Refused.is asked in
    absurd (refused_plain last (tapes_of s) c.args.call c.in-Refused.why (journal_last.early last (tapes_of s) c.args.call c.in-Refused.why is) (subst IsFault c.refuse.ensures.reply fault))

pub returns-in-Refused-clause-stood : goal.returns-in-Refused-clause-stood
returns-in-Refused-clause-stood g c = λ first t0 stood.
    let s = c.args.self.now in
    let disk = g.D.Disk.told c.args.disk.now in
    let last = last_of first s in
    let tables = told first t0 disk s stood c.requires.sure in
    let shows = asked_on first t0 disk s stood c.requires.sure c.ask.new.parts (c.ask.ensures.same stood.held stood.b.kept tables.kept) c.ask.ensures.form c.ask.ensures.blocks in
    let graces = ap (λ (x : Shape). x.graces) (stood.upright.seated.shape ∙ sym c.shape.ensures) in
    let asked = c.in_ok-why.ensures.asked stood.held stood.fill stood.b last (tapes_of s) stood.upright.fills.spots tables stood.upright.fills.kept stood.upright.fills.form stood.upright.valid graces in
    let is = subst (λ (a : Asked). IsAsked c.ask.new.parts stood.b last (tapes_of s) c.args.call a) c.in-Refused.is asked in
    c.refuse.ensures.stood first t0 (stood_on first t0 disk s stood c.requires.sure c.ask.new.parts shows c.ask.ensures.blocks) (nothing_lands last c.args.call (is_sure first t0 disk s stood c.requires.sure).in_state)
    (journal_last.early last (tapes_of s) c.args.call c.in-Refused.why is)

pub returns-in_ok-replies-in-Answered-clause-cause : goal.returns-in_ok-replies-in-Answered-clause-cause
returns-in_ok-replies-in-Answered-clause-cause g c = λ fault.
    let first = c.requires.stood.0 in
    let t0 = c.requires.stood.1 in
    let stood = c.requires.stood.2 in
    let s = c.args.self.now in
    let disk = g.D.Disk.told c.args.disk.now in
    let last = last_of first s in
    let tables = told first t0 disk s stood c.requires.sure in
    let shows = asked_on first t0 disk s stood c.requires.sure c.ask.new.parts (c.ask.ensures.same stood.held stood.b.kept tables.kept) c.ask.ensures.form c.ask.ensures.blocks in
    let graces = ap (λ (x : Shape). x.graces) (stood.upright.seated.shape ∙ sym c.shape.ensures) in
    let asked = c.in_ok-why.ensures.asked stood.held stood.fill stood.b last (tapes_of s) stood.upright.fills.spots tables stood.upright.fills.kept stood.upright.fills.form stood.upright.valid graces in
    let is = subst (λ (a : Asked). IsAsked c.ask.new.parts stood.b last (tapes_of s) c.args.call a) c.in-Answered.is asked in
    absurd (plain_reply first t0 disk s stood c.requires.sure c.ask.new.parts shows c.ask.ensures.blocks c.args.call c.requires.alters c.requires.range c.in-Answered.reply c.in_ok-replies-in-Answered.replies.1 c.in_ok-replies-in-Answered.ensures.second is.2
    (subst IsFault c.answer.ensures.reply fault))

pub returns-in_ok-replies-in-Answered-clause-stood : goal.returns-in_ok-replies-in-Answered-clause-stood
returns-in_ok-replies-in-Answered-clause-stood g c = λ first t0 stood.
    let s = c.args.self.now in
    let disk = g.D.Disk.told c.args.disk.now in
    let last = last_of first s in
    let tables = told first t0 disk s stood c.requires.sure in
    let shows = asked_on first t0 disk s stood c.requires.sure c.ask.new.parts (c.ask.ensures.same stood.held stood.b.kept tables.kept) c.ask.ensures.form c.ask.ensures.blocks in
    let graces = ap (λ (x : Shape). x.graces) (stood.upright.seated.shape ∙ sym c.shape.ensures) in
    let asked = c.in_ok-why.ensures.asked stood.held stood.fill stood.b last (tapes_of s) stood.upright.fills.spots tables stood.upright.fills.kept stood.upright.fills.form stood.upright.valid graces in
    let is = subst (λ (a : Asked). IsAsked c.ask.new.parts stood.b last (tapes_of s) c.args.call a) c.in-Answered.is asked in
    c.answer.ensures.stood first t0 (stood_on first t0 disk s stood c.requires.sure c.ask.new.parts shows c.ask.ensures.blocks)
    (answers first t0 disk s stood c.requires.sure c.ask.new.parts shows c.ask.ensures.blocks c.args.call c.requires.alters c.requires.range c.args.caller c.in-Answered.reply c.in_ok-replies-in-Answered.replies.0 c.in_ok-replies-in-Answered.ensures.first is.0 is.1 is.2)

pub send-requires-clause-alters : goal.send-requires-clause-alters
send-requires-clause-alters g c κs within =
    let first = c.requires.stood.0 in
    let t0 = c.requires.stood.1 in
    let stood = c.requires.stood.2 in
    let s = c.args.self.now in
    let disk = g.D.Disk.told c.args.disk.now in
    let last = last_of first s in
    let tables = told first t0 disk s stood c.requires.sure in
    let shows = asked_on first t0 disk s stood c.requires.sure c.ask.new.parts (c.ask.ensures.same stood.held stood.b.kept tables.kept) c.ask.ensures.form c.ask.ensures.blocks in
    let graces = ap (λ (x : Shape). x.graces) (stood.upright.seated.shape ∙ sym c.shape.ensures) in
    let asked = c.in_ok-why.ensures.asked stood.held stood.fill stood.b last (tapes_of s) stood.upright.fills.spots tables stood.upright.fills.kept stood.upright.fills.form stood.upright.valid graces in
    let is = subst (λ (a : Asked). IsAsked c.ask.new.parts stood.b last (tapes_of s) c.args.call a) c.in-Changes.is asked in
    (first, t0, alters first t0 disk s stood c.requires.sure c.ask.new.parts shows c.ask.ensures.blocks c.args.call c.requires.alters c.requires.range c.in-Changes.ready c.in-Changes.reply c.in_ok-replies-in-Changes.replies.0 c.in-Changes.growth c.in_ok-replies-in-Changes.ensures.first is)

pub send-requires-clause-plain : goal.send-requires-clause-plain
send-requires-clause-plain g c κs within =
    let first = c.requires.stood.0 in
    let t0 = c.requires.stood.1 in
    let stood = c.requires.stood.2 in
    let s = c.args.self.now in
    let disk = g.D.Disk.told c.args.disk.now in
    let last = last_of first s in
    let tables = told first t0 disk s stood c.requires.sure in
    let shows = asked_on first t0 disk s stood c.requires.sure c.ask.new.parts (c.ask.ensures.same stood.held stood.b.kept tables.kept) c.ask.ensures.form c.ask.ensures.blocks in
    let graces = ap (λ (x : Shape). x.graces) (stood.upright.seated.shape ∙ sym c.shape.ensures) in
    let asked = c.in_ok-why.ensures.asked stood.held stood.fill stood.b last (tapes_of s) stood.upright.fills.spots tables stood.upright.fills.kept stood.upright.fills.form stood.upright.valid graces in
    let is = subst (λ (a : Asked). IsAsked c.ask.new.parts stood.b last (tapes_of s) c.args.call a) c.in-Changes.is asked in
    plain_reply first t0 disk s stood c.requires.sure c.ask.new.parts shows c.ask.ensures.blocks c.args.call c.requires.alters c.requires.range c.in-Changes.reply c.in_ok-replies-in-Changes.replies.1 c.in_ok-replies-in-Changes.ensures.second is.replied

pub returns-in_ok-replies-in-Changes-clause-stood : goal.returns-in_ok-replies-in-Changes-clause-stood
returns-in_ok-replies-in-Changes-clause-stood g c = λ first t0 stood.
    let s = c.args.self.now in
    let disk = g.D.Disk.told c.args.disk.now in
    let last = last_of first s in
    let tables = told first t0 disk s stood c.requires.sure in
    let shows = asked_on first t0 disk s stood c.requires.sure c.ask.new.parts (c.ask.ensures.same stood.held stood.b.kept tables.kept) c.ask.ensures.form c.ask.ensures.blocks in
    let graces = ap (λ (x : Shape). x.graces) (stood.upright.seated.shape ∙ sym c.shape.ensures) in
    let asked = c.in_ok-why.ensures.asked stood.held stood.fill stood.b last (tapes_of s) stood.upright.fills.spots tables stood.upright.fills.kept stood.upright.fills.form stood.upright.valid graces in
    let is = subst (λ (a : Asked). IsAsked c.ask.new.parts stood.b last (tapes_of s) c.args.call a) c.in-Changes.is asked in
    c.send.ensures.stood first t0 (alters first t0 disk s stood c.requires.sure c.ask.new.parts shows c.ask.ensures.blocks c.args.call c.requires.alters c.requires.range c.in-Changes.ready c.in-Changes.reply c.in_ok-replies-in-Changes.replies.0 c.in-Changes.growth c.in_ok-replies-in-Changes.ensures.first is)

pub returns-in_err-why-clause-spare : goal.returns-in_err-why-clause-spare
returns-in_err-why-clause-spare g c = λ first t0 stood takes fits. no_err c.ask.result _ c.in_err-why.was (c.ask.ensures.spare takes)

pub returns-in_err-replies-in-Answered-clause-spare : goal.returns-in_err-replies-in-Answered-clause-spare
returns-in_err-replies-in-Answered-clause-spare g c = λ first t0 stood takes fits.
    let brief = subst IsBrief c.in-Answered.is (c.in_ok-why.ensures.brief takes) in
    no_err c.twice.result _ c.in_err-replies-in-Answered.was (c.twice.ensures.spare brief)

pub returns-in_err-replies-in-Changes-clause-spare : goal.returns-in_err-replies-in-Changes-clause-spare
returns-in_err-replies-in-Changes-clause-spare g c = λ first t0 stood takes fits.
    let brief = subst IsBrief c.in-Changes.is (c.in_ok-why.ensures.brief takes) in
    no_err c.twice-in-Changes.result _ c.in_err-replies-in-Changes.was (c.twice-in-Changes.ensures.spare brief.0)

pub returns-in_ok-replies-in-Changes-clause-spare : goal.returns-in_ok-replies-in-Changes-clause-spare
returns-in_ok-replies-in-Changes-clause-spare g c = λ first t0 stood takes fits.
    let s = c.args.self.now in
    let disk = g.D.Disk.told c.args.disk.now in
    let last = last_of first s in
    let tables = told first t0 disk s stood c.requires.sure in
    let shows = asked_on first t0 disk s stood c.requires.sure c.ask.new.parts (c.ask.ensures.same stood.held stood.b.kept tables.kept) c.ask.ensures.form c.ask.ensures.blocks in
    let graces = ap (λ (x : Shape). x.graces) (stood.upright.seated.shape ∙ sym c.shape.ensures) in
    let asked = c.in_ok-why.ensures.asked stood.held stood.fill stood.b last (tapes_of s) stood.upright.fills.spots tables stood.upright.fills.kept stood.upright.fills.form stood.upright.valid graces in
    let is = subst (λ (a : Asked). IsAsked c.ask.new.parts stood.b last (tapes_of s) c.args.call a) c.in-Changes.is asked in
    let brief = subst IsBrief c.in-Changes.is (c.in_ok-why.ensures.brief takes) in
    c.send.ensures.spare brief.1
    (fits_rest first t0 disk (record s { parts = c.ask.new.parts }) c.args.call c.in-Changes.ready c.in_ok-replies-in-Changes.replies.0 c.in-Changes.growth
    (alters first t0 disk s stood c.requires.sure c.ask.new.parts shows c.ask.ensures.blocks c.args.call c.requires.alters c.requires.range c.in-Changes.ready c.in-Changes.reply c.in_ok-replies-in-Changes.replies.0 c.in-Changes.growth c.in_ok-replies-in-Changes.ensures.first is) fits)

pub returns-in_ok-replies-in-Changes-clause-calls : goal.returns-in_ok-replies-in-Changes-clause-calls
returns-in_ok-replies-in-Changes-clause-calls g c = λ first t0 stood.
    let s = c.args.self.now in
    let disk = g.D.Disk.told c.args.disk.now in
    let last = last_of first s in
    let tables = told first t0 disk s stood c.requires.sure in
    let shows = asked_on first t0 disk s stood c.requires.sure c.ask.new.parts (c.ask.ensures.same stood.held stood.b.kept tables.kept) c.ask.ensures.form c.ask.ensures.blocks in
    let graces = ap (λ (x : Shape). x.graces) (stood.upright.seated.shape ∙ sym c.shape.ensures) in
    let asked = c.in_ok-why.ensures.asked stood.held stood.fill stood.b last (tapes_of s) stood.upright.fills.spots tables stood.upright.fills.kept stood.upright.fills.form stood.upright.valid graces in
    let is = subst (λ (a : Asked). IsAsked c.ask.new.parts stood.b last (tapes_of s) c.args.call a) c.in-Changes.is asked in
    c.send.ensures.calls first t0 (alters first t0 disk s stood c.requires.sure c.ask.new.parts shows c.ask.ensures.blocks c.args.call c.requires.alters c.requires.range c.in-Changes.ready c.in-Changes.reply c.in_ok-replies-in-Changes.replies.0 c.in-Changes.growth c.in_ok-replies-in-Changes.ensures.first is)
