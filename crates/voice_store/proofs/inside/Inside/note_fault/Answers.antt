use Rattle.voice_store.proofs.inside.Inside.note_fault.Goals as goal

pub returns-clause-stood : goal.returns-clause-stood
returns-clause-stood g c = λ first t0 stood stays. c.note.ensures.stood first t0 stood stays
