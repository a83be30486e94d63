-- A keeper that counts no fault is never answered to have failed.
use Rattle.std.proofs.Common.{◌≡◌, ◌≢◌, ℕ, Bool, true, false, true≢false, cond, List, [], ◌∷◌, Option, refl, sym, ap, ◌∙◌, subst}
use Rattle.std.specs.Prelude.{IsTrue}
use Rattle.std.specs.List.{AllByRecursion}
use Rattle.std.proofs.lemmas.Slice.Eq.{bytes_eq-Decides}
use Rattle.asp_messages.specs.declared.reply.Reply.TheVariants.{KeeperFault}
use Rattle.session_machine.specs.declared.entry.Entry.{Entry}
use Rattle.session_machine.specs.declared.entry.Deed.{Deed}
use Rattle.session_machine.specs.declared.entry.Deed.TheVariants.{Asked, Expired, Looked}
use Rattle.session_machine.specs.declared.item.Item.{Item}
use Rattle.session_machine.specs.declared.item.Profile.{Profile}
use Rattle.session_machine.specs.History.{Marked, marked, is_deed_of, entries_of, after_entry, DeedStands, Lead, LookStands, IsLegalIn, has_risen, circumstances_of, after_reply}
use Rattle.session_machine.specs.Machine.{Step}
use Rattle.lock_laws.specs.InForce.{is_refused}
use Rattle.lock_laws.specs.Laws.{FaultsAreCounted}

-- the entries of a key that is not among the first go on from the same item
behind : (profile : Profile) (b : Bool) (old : Option Item) (m : Marked) (ms : List Marked)
    → Lead profile old (cond b (m ∷ ms) ms) → Lead profile (cond b (after_entry profile old m) old)
    ms
behind profile true old m ms lead = lead.1
behind profile false old m ms lead = lead

-- the first entry, where the key's it is, stands on the key's item
first : (profile : Profile) (b : Bool) (old : Option Item) (m : Marked) (ms : List Marked)
    → b ≡ true
    → Lead profile old (cond b (m ∷ ms) ms) → DeedStands profile old m.0 m.1.deed m.1
first profile b old m ms is lead =
    let here : Lead profile old (m ∷ ms) = subst (λ c. Lead profile old (cond c (m ∷ ms) ms)) is
    lead in
    here.0

-- with no count that rose a deed is not answered with a fault
no-fault : (profile : Profile) (items : List ℕ → Option Item) (deed : Deed) (e : Entry)
    → ((key : List ℕ) → is_deed_of key deed ≡ true → DeedStands profile (items key) false deed e)
    → LookStands false deed e.reply → e.reply ≢ KeeperFault
no-fault profile items (Asked request) e stands looks is =
    let key : List ℕ = request.key in
    let at : DeedStands profile (items key) false (Asked request) e =
    stands key ((bytes_eq-Decides key key).1 refl) in
    let faulty : IsTrue false × (items key ≡ items key) =
    subst (λ r. Step profile (items key) request.ask (circumstances_of false e) r
    (after_reply profile (items key) e.moment e.drawn request.ask r)) is at in
    true≢false (sym faulty.0)
no-fault profile items (Expired key) e stands looks is =
    let at : DeedStands profile (items key) false (Expired key) e =
    stands key ((bytes_eq-Decides key key).1 refl) in
    true≢false (ap is_refused (sym is ∙ at.1))
no-fault profile items Looked e stands looks is =
    true≢false (sym (subst (LookStands false Looked) is looks))

-- so no entry is, whose counts are 0
never : (profile : Profile) (items : List ℕ → Option Item) (list : List Entry)
    → ((key : List ℕ) → Lead profile (items key) (entries_of key (marked 0 list)))
    → AllByRecursion (λ e. LookStands e.0 e.1.deed e.1.reply) (marked 0 list)
    → FaultsAreCounted list
never profile items [] lead looks none = tt
never profile items (e ∷ es) lead looks none =
    let same : marked 0 (e ∷ es) ≡ (false, e) ∷ marked 0 es =
    ap (λ n. (has_risen 0 n, e) ∷ marked n es) none.0 in
    let lead' : (key : List ℕ) → Lead profile (items key) (entries_of key ((
      false,
      e,
    ) ∷ marked 0 es)) =
    λ key. subst (λ ms. Lead profile (items key) (entries_of key ms)) same (lead key) in
    let looks' : AllByRecursion (λ m. LookStands m.0 m.1.deed m.1.reply)
    ((false, e) ∷ marked 0 es) =
    subst (AllByRecursion (λ m. LookStands m.0 m.1.deed m.1.reply)) same looks in (
      no-fault profile items e.deed e
          (λ key is. first profile (is_deed_of key e.deed) (items key) (false, e) _ is (lead' key))
          looks'.0,
      never profile
          (λ key. cond (is_deed_of key e.deed) (after_entry profile (items key) (
            false,
            e,
          )) (items key)) es
          (λ key. behind profile (is_deed_of key e.deed) (items key) (
            false,
            e,
          ) _ (lead' key)) looks'.1
          none.1,
    )

pub faults-counted : (profile : Profile) (opening : List ℕ → Option Item) (list : List Entry)
    → IsLegalIn profile opening 0 list
    → FaultsAreCounted list
faults-counted profile opening list legal = never profile opening list legal.keys legal.looks

-- a type of keepers that never counts has no counts but 0 in its entries
pub no-counts : (CanCount : ℕ → Type 0) (list : List Entry)
    → AllByRecursion (λ e. CanCount e.faults) list → ((count : ℕ) → CanCount count → count ≡ 0)
    → AllByRecursion (λ e. e.faults ≡ 0) list
no-counts CanCount [] counts never = tt
no-counts CanCount (e ∷ es) counts never =
    (never e.faults counts.0, no-counts CanCount es counts.1 never)
