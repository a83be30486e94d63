-- Where no answer comes.
use Rattle.std.proofs.Common.{◌≡◌, ℕ, List, [], ◌++◌, Option, refl, sym, ◌∙◌, subst, inl, inr, append-nil, true, false}
use Rattle.std.specs.Prelude.{◌⊎◌, IsTrue}
use Rattle.asp_base.specs.Outside.{IsAtEnd}
use Rattle.asp_messages.specs.ReplySpelling.{SpellsReply}
use Rattle.asp_messages.specs.Stream.{HasNoMessage, IsHopeless}
use Rattle.message_framing.specs.ReaderState.{ReaderState}
use Rattle.page_link.specs.declared.exchange.Break.{Break}
use Rattle.page_link.specs.declared.exchange.Break.TheVariants as breaks
use Rattle.page_link.specs.Exchanges.{HearsNone, IsFed}
use Rattle.page_link.specs.Links.{Receives}
use Rattle.page_link.proofs.LinkLemmas.{Receives-trans}

-- what can never begin with a reply begins with none now
hopeless-none : (rest : List ℕ) → IsHopeless SpellsReply rest → HasNoMessage SpellsReply rest
hopeless-none rest hopeless front back m e spells = hopeless [] front back m (append-nil rest
    ∙ e) spells

hopeless_of : (old new : ReaderState) (received : List ℕ) → IsFed old new received
    → IsTrue new.is_broken
    ⊎ IsHopeless SpellsReply new.held → IsHopeless SpellsReply (old.held ++ received)
hopeless_of old new received fed (inl broken) = absurd (let e : false ≡ true = sym fed.whole
    ∙ broken in cc)
hopeless_of old new received fed (inr hopeless) = subst (IsHopeless SpellsReply) fed.held hopeless

pub hears-broken : (link link' : Option (List ℕ × List ℕ)) (old new : ReaderState)
    (received : List ℕ)
    → Receives link link' received → IsFed old new received
    → IsTrue new.is_broken ⊎ IsHopeless SpellsReply new.held
    → HearsNone link link' old.held breaks.BadReply
hears-broken link link' old new received receives fed hopeless =
    let never = hopeless_of old new received fed hopeless in
    (received, receives, (hopeless-none (old.held ++ received) never, inl never))

pub hears-none : (link link' link'' : Option (List ℕ × List ℕ)) (old new : ReaderState)
    (received piece : List ℕ) (broken : Break) → Receives link link' received
    → IsFed old new received
    → HasNoMessage SpellsReply new.held → Receives link' link'' piece
    → (broken ≡ breaks.BadReply → Receives link' link'' [] × IsAtEnd link'')
    → HearsNone link link'' old.held broken
hears-none link link' link'' old new received piece breaks.LinkFault receives fed none more end =
    (received ++ piece, Receives-trans link link' link'' received piece receives more, tt)
hears-none link link' link'' old new received piece breaks.NoMemory receives fed none more end =
    (received ++ piece, Receives-trans link link' link'' received piece receives more, tt)
hears-none link link' link'' old new received piece breaks.BadReply receives fed none more end =
    let ended = end refl in
    let all = subst (λ l. Receives link link'' l) (append-nil received)
    (Receives-trans link link' link'' received [] receives ended.0) in
    (received, all, (subst (HasNoMessage SpellsReply) fed.held none, inr ended.1))
