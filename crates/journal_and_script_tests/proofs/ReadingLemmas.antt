-- What a reader of journals gave may be written again in its profile.
use Rattle.std.proofs.Common.{◌≡◌, Option, Some, sym, subst, ◌∙◌}
use Rattle.session_machine.specs.declared.entry.Entry.{Entry}
use Rattle.session_machine.specs.declared.item.Profile.{Profile}
use Rattle.journal_text.specs.WritingText.{TellsOnly}
use Rattle.journal_text.specs.ReadingText.{JournalReading, TakesEntry}

pub told_by : (e : Entry) (old new : JournalReading) (profile : Profile) → TakesEntry e old new
    → new.begun ≡ Some profile → TellsOnly profile e.reply
told_by e old new profile t is =
    let some : ◌≡◌ {A = Option Profile} (Some t.profile) (Some profile) = sym t.takes.begun ∙ is in
    let same : t.profile ≡ profile = cc in
    subst (λ p. TellsOnly p e.reply) same t.fits.told
