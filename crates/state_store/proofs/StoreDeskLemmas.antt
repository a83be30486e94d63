-- A desk's history goes on by one entry.
use Rattle.std.proofs.Common.{zero, suc, ◌≡◌, ℕ, ◌+◌, ◌<◌, ◌≤◌, Bool, true, false, List, [], ◌∷◌, ◌++◌, Option, length, cond, eqb, ne_eqb, refl, sym, ap, ◌∙◌, subst, arith, inl, inr, length-append, All}
use Rattle.std.specs.List.{AllByRecursion}
use Rattle.asp_messages.specs.declared.reply.Reply.TheVariants.{CookiesOut}
use Rattle.session_machine.specs.declared.entry.Entry.{Entry}
use Rattle.session_machine.specs.declared.item.Item.{Item}
use Rattle.std.specs.Prelude.{IsSome, Some, None}
use Rattle.session_machine.specs.History.{IsFreshDraw, IsLegal, nothing, item_after}
use Rattle.session_machine.proofs.HistoryLemmas.{All-push}
use Rattle.shard_core.specs.ShardStands.{StandsFor, TellsAfter}
use Rattle.turnstile.specs.declared.stands.TurnTerms.{TurnTerms}
use Rattle.turnstile.specs.TurnRule.{end_of_places}
use Rattle.state_store.specs.declared.store_desk.StoreDesk.{StoreDesk}
use Rattle.state_store.specs.StoreDesks.{Drawn, StoreDeskStands, DrewWithin, cookies_in}
use Rattle.state_store.specs.StoreTurns.{AlwaysTells, IsHistory, NothingDue}
use Rattle.keeper.specs.Items.{StillTells}
use Rattle.keeper.specs.Due.{TellsDue}
use Rattle.shard_core.specs.declared.shard.Swept.{Swept}
use Rattle.shard_core.specs.declared.shard.Swept.TheVariants as swept
use Rattle.shard_core.specs.Sweeping.{swept_reply}

cookies_in-none : (es : List Entry) (e : Entry) → e.drawn ≡ 0
    → cookies_in (es ++ e ∷ []) ≡ cookies_in es
cookies_in-none [] e none = by_test (e.drawn) none
  where
    by_test : (n : ℕ) → n ≡ 0 → cond (eqb n 0) [] (n ∷ []) ≡ []
    by_test zero is = refl
    by_test (suc n) is = absurd (omega (arith, is))
cookies_in-none (f ∷ fs) e none =
    ap (λ l. cond (eqb f.drawn 0) l (f.drawn ∷ l)) (cookies_in-none fs e none)

cookies_in-one : (es : List Entry) (e : Entry) → 0 < e.drawn
    → cookies_in (es ++ e ∷ []) ≡ cookies_in es ++ e.drawn ∷ []
cookies_in-one [] e some = by_test e.drawn some
  where
    by_test : (n : ℕ) → 0 < n → cond (eqb n 0) [] (n ∷ []) ≡ n ∷ []
    by_test zero is = absurd (omega (arith, is))
    by_test (suc n) is =
        ap (λ b. cond {A = List ℕ} b [] (suc n ∷ []))
        (ne_eqb (suc n) 0 (λ no. absurd (omega (arith, no))))
cookies_in-one (f ∷ fs) e some =
    ap (λ l. cond (eqb f.drawn 0) l (f.drawn ∷ l)) (cookies_in-one fs e some)
    ∙ by_test (eqb f.drawn 0)
  where
    by_test : (b : Bool)
        → cond b (cookies_in fs ++ e.drawn ∷ []) (f.drawn ∷ (cookies_in fs ++ e.drawn ∷ []))
        ≡ cond b (cookies_in fs) (f.drawn ∷ cookies_in fs) ++ e.drawn ∷ []
    by_test true = refl
    by_test false = refl

-- what is greater than each cookie of a history is greater than what each of its entries drew
below_all : (es : List Entry) (n : ℕ) → 0 < n → All (λ k. k < n) (cookies_in es)
    → AllByRecursion (λ e. e.drawn < n) es
below_all [] n some all = tt
below_all (e ∷ es) n some all = by_test e.drawn all (below_all es n some)
  where
    below_first : (k : ℕ) (ks : List ℕ) → All (λ k. k < n) (k ∷ ks) → (k < n) × All (λ k. k < n) ks
    below_first k ks all = (all 0 0 (omega arith), λ i d lt. all (suc i) d (omega (arith, lt)))

    by_test : (k : ℕ) → All (λ k. k < n) (cond (eqb k 0) (cookies_in es) (k ∷ cookies_in es))
        → (All (λ k. k < n) (cookies_in es) → AllByRecursion (λ f. f.drawn < n) es)
        → (k < n) × AllByRecursion (λ f. f.drawn < n) es
    by_test zero all rest = (some, rest all)
    by_test (suc k) all rest =
        let both =
        below_first (suc k) (cookies_in es)
        (subst (λ b. All (λ k. k < n) (cond b (cookies_in es) (suc k ∷ cookies_in es)))
        (ne_eqb (suc k) 0 (λ no. absurd (omega (arith, no)))) all) in
        (both.0, rest both.1)

out_later : (es : List Entry) (last old new : ℕ) → old ≤ new
    → AllByRecursion (λ e. e.reply ≡ CookiesOut → last < old) es
    → AllByRecursion (λ e. e.reply ≡ CookiesOut → last < new) es
out_later [] last old new le all = tt
out_later (e ∷ es) last old new le all =
    (λ out. let before = all.0 out in omega (arith, before, le), out_later es last old new le all.1)

module _ (CanCount : ℕ → Type 0) (terms : TurnTerms) (list : List Entry)
    (told : Option (List ℕ → Option Item)) (now : ℕ) (old : Drawn)
    (stand : StoreDeskStands CanCount terms list told now old)
  where
    -- a cookie above each that the drawer drew was never drawn
    pub draws_new : (drawn : ℕ) → (0 < drawn → All (λ k. k < drawn) old.cookies)
        → IsFreshDraw nothing list drawn
    draws_new zero above = inl refl
    draws_new (suc n) above =
        inr (
          below_all list (suc n) (omega arith)
              (subst (λ l. All (λ k. k < suc n) l) stand.cookies (above (omega arith))),
          λ key. tt,
        )

    pub goes_on : (told' : Option (List ℕ → Option Item)) (now' : ℕ) (new : Drawn) (e : Entry)
        → terms.first_place + length list < end_of_places → StandsFor nothing 0 (list
        ++ e ∷ []) told' now'
        → CanCount e.faults
        → (0 < e.drawn → (old.first_cookie ≤ e.drawn) × (e.drawn ≤ old.last_cookie))
        → new.first_cookie ≡ old.first_cookie → new.last_cookie ≡ old.last_cookie
        → old.seen ≤ new.seen → (e.drawn ≡ 0 → new.cookies ≡ old.cookies)
        → (0 < e.drawn → new.cookies ≡ old.cookies ++ e.drawn ∷ [])
        → (e.reply ≡ CookiesOut → new.last_cookie < new.seen)
        → StoreDeskStands CanCount terms (list ++ e ∷ []) told' now' new
    goes_on told' now' new e room stands can in_range first last seen none one out = record {
      places = omega (arith, room, length-append list (e ∷ []));
      keeper = stands;
      counts = All-push (λ (f : Entry). CanCount f.faults) list e stand.counts can;
      source = (first ∙ stand.source.0, last ∙ stand.source.1);
      within = All-push (DrewWithin terms) list e stand.within drew;
      cookies = by_drawn e.drawn refl;
      cookies_out =
          All-push (λ (f : Entry). f.reply ≡ CookiesOut → new.last_cookie < new.seen) list e
          (subst (λ n. AllByRecursion (λ f. f.reply ≡ CookiesOut → n < new.seen) list) (sym last)
          (out_later list old.last_cookie old.seen new.seen seen stand.cookies_out))
          out;
    }
      where
        drew : DrewWithin terms e
        drew some =
            let r = in_range some in
            let s = stand.source in
            (omega (arith, r.0, s.0), omega (arith, r.1, s.1))

        by_drawn : (n : ℕ) → n ≡ e.drawn → new.cookies ≡ cookies_in (list ++ e ∷ [])
        by_drawn zero is = none (sym is) ∙ stand.cookies ∙ sym (cookies_in-none list e (sym is))
        by_drawn (suc n) is =
            let some : 0 < e.drawn = omega (arith, is) in
            one some ∙ ap (λ l. l ++ e.drawn ∷ []) stand.cookies ∙ sym (cookies_in-one list e some)

-- the list of a desk that stands for it is a history
pub history-of : {K : Type 0} (told : K → Option (List ℕ → Option Item)) (CanCount : ℕ → Type 0)
    (terms : TurnTerms) (list : List Entry) (k : K) (now : ℕ) (drawn : Drawn)
    → StoreDeskStands CanCount terms list (told k) now drawn → IsHistory told CanCount terms list
history-of told CanCount terms list k now drawn stand = record {
  legal = λ all. by_told (told k) (all k) stand.keeper.told_is;
  counts = stand.counts;
  drawn = stand.within;
}
  where
    by_told : (t : Option (List ℕ → Option Item)) → IsSome t → TellsAfter nothing 0 list t
        → IsLegal nothing 0 list
    by_told None some after = absurd (cc)
    by_told (Some items) some after = after.0

-- the desk that was lent stood for the list; what it did adds the entry that was noted
pub noted : {K : Type 0} (Stands : StoreDesk K → List Entry → Type 0) (list : List Entry)
    (old lent new : StoreDesk K) (e note : Entry)
    → Stands old list → lent ≡ old → (Stands lent list → Stands new (list ++ e ∷ [])) → note ≡ e
    → Stands new (list ++ note ∷ [])
noted Stands list old lent new e note stand same acts is =
    subst (λ f. Stands new (list ++ f ∷ [])) (sym is)
    (acts (subst (λ d. Stands d list) (sym same) stand))

-- where the keepers tell, nothing is due in the map after the list where a keeper that stands for
-- it finds nothing
pub finds_nothing : {K : Type 0} (told : K → Option (List ℕ → Option Item)) (list : List Entry)
    (k after : K) (now t : ℕ) → AlwaysTells told
    → StandsFor nothing 0 list (told k) now → StillTells (told k) (told after)
    → TellsDue (told after) t None
    → NothingDue (item_after nothing 0 list) t
finds_nothing told list k after now t all stand same due =
    by_told (told k) (told after) (all after) stand.told_is same due
  where
    by_told : (o n : Option (List ℕ → Option Item)) → IsSome n → TellsAfter nothing 0 list o
        → StillTells o n → TellsDue n t None → NothingDue (item_after nothing 0 list) t
    by_told o None some held same due = absurd (cc)
    by_told None (Some items) some held same due = absurd (cc)
    by_told (Some old) (Some items) some held same due = λ key d.
        let one : old ≡ items = cc in
        due key (d.0, ap (λ (f : List ℕ → Option Item). f key) (sym one) ∙ held.1 key ∙ d.1, d.2)

-- a look is never answered that no cookie was left
pub no_cookies_out : (s : Swept) → swept_reply s ≡ CookiesOut → ⊥
no_cookies_out (swept.Removed key) is = cc
no_cookies_out swept.Nothing is = cc
no_cookies_out swept.KeeperFault is = cc
no_cookies_out swept.NoMemory is = cc
