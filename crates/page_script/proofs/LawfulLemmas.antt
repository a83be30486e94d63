-- What holds in each world that a script stands for.
use Rattle.std.proofs.Common.{◌≡◌, ◌≢◌, ℕ, ◌+◌, Bool, true, false, cond, List, [], ◌∷◌, ◌++◌, length, Some, None, Option, refl, sym, ap, ◌∙◌, arith, subst}
use Rattle.std.specs.Prelude.{◌==◌, map, filter}
use Rattle.std.proofs.lemmas.Bool.Decides.{nat_tests}
use Rattle.std.proofs.lemmas.List.{map-append}
use Rattle.std.proofs.lemmas.List.Elements.{filter-append}
use Rattle.asp_messages.specs.declared.reply.Reply.TheVariants.{Locked}
use Rattle.std.proofs.lemmas.Slice.Eq.{bytes_eq-Decides}
use Rattle.asp_messages.specs.declared.request.Request.{Request}
use Rattle.session_machine.specs.declared.entry.Entry.{Entry}
use Rattle.session_machine.specs.declared.item.Item.{Item}
use Rattle.shard_core.specs.ShardStands.{TellsAfter}
use Rattle.session_machine.specs.Profiles.{newest}
use Rattle.session_machine.specs.History.{IsLegal}
use Rattle.lock_laws.specs.Laws.{ToldLock, IsInForceFor, is_content_ask}
use Rattle.lock_laws.proofs.WayLemmas.{lock_in_the_way}
use Rattle.visit_core.specs.declared.visit_terms.Need.{Need}
use Rattle.visit_core.specs.declared.visit_terms.Need.TheVariants.{Exclusive, ReadOnly, Off}
use Rattle.visit_core.specs.declared.act.Heard.TheVariants.{Reply}
use Rattle.visit_core.specs.VisitRule.{Event, heard, ask_for, IsLawful, MeetsOldLock}
use Rattle.visit_core.specs.Terms.{VisitTerms}
use Rattle.visit_core.proofs.ReleaseLemmas.{releases}
use Rattle.keeper.specs.declared.keeping.Keeper.{Ghosts}
use Rattle.plain_desk.specs.Openings.{Opening}
use Rattle.page_script.specs.declared.script.Script.{Script}
use Rattle.page_script.specs.World.{PageInWorld, WorldTurn, World, history, entry_of_turn, event_of, page_in, turns_of, is_heard, IsLawfulPage, IsLawfulWorld, MetOldLock, PagesForceOldLocks}
use Rattle.page_script.specs.ScriptStands.{PagesStand, ScriptStands, IfTold, IfTells, keeper_of}
use Rattle.page_script.proofs.PlaceLemmas.{live-at}

-- ---- the place of a page's last answer

-- The last turn of a page, whose answer is this event.
record IsLast (number : ℕ) (turns : List WorldTurn) (event : Event) : Type 0 where
  before : List WorldTurn
  turn : WorldTurn
  behind : List WorldTurn
  place : turns ≡ before ++ turn ∷ behind
  own : turn.page ≡ number
  last : turns_of number behind ≡ []
  answer : event_of turn ≡ event

map-nil : (turns : List WorldTurn) → map event_of turns ≡ [] → turns ≡ []
map-nil [] is = refl
map-nil (turn ∷ turns) is = absurd (cc is)

own-true : (m number : ℕ) → (m == number) ≡ true → m ≡ number
own-true m number e = grind (arith, nat_tests)

-- a turn more in front
in_front : (number : ℕ) (turn : WorldTurn) (turns : List WorldTurn) (event : Event)
    → IsLast number turns event → IsLast number (turn ∷ turns) event
in_front number turn turns event found = record {
  before = turn ∷ found.before;
  turn = found.turn;
  behind = found.behind;
  place = ap (λ ts. turn ∷ ts) found.place;
  own = found.own;
  last = found.last;
  answer = found.answer;
}

last_turn : (number : ℕ) (turns : List WorldTurn) (events : List Event) (event : Event)
    → map event_of (turns_of number turns) ≡ events ++ event ∷ [] → IsLast number turns event
last_turn number [] [] event is = absurd (cc is)
last_turn number [] (other ∷ events) event is = absurd (cc is)
last_turn number (turn ∷ turns) events event is =
    by_page (λ es e. last_turn number turns es event e) (turn.page == number) refl events is
  where
    by_page : ((es : List Event) → map event_of (turns_of number turns) ≡ es ++ event ∷ []
        → IsLast number turns event) → (b : Bool) → (turn.page == number) ≡ b → (es : List Event)
        → map event_of (cond b (turn ∷ turns_of number turns) (turns_of number turns)) ≡ es ++ event
        ∷ [] → IsLast number (turn ∷ turns) event
    by_page next true own [] e = record {
      before = [];
      turn = turn;
      behind = turns;
      place = refl;
      own = own-true turn.page number own;
      last = (let rest : map event_of (turns_of number turns) ≡ [] = cc e in
          map-nil (turns_of number turns) rest);
      answer = cc e;
    }
    by_page next true own (other ∷ es) e = (let rest : map event_of (turns_of number turns) ≡ es
        ++ event ∷ [] = cc e in in_front number turn turns event (next es rest))
    by_page next false own es e = in_front number turn turns event (next es e)

-- ---- a release by force

content-ask : (need : Need) → need ≢ Off → is_content_ask (ask_for need) ≡ true
content-ask Exclusive apart = refl
content-ask ReadOnly apart = refl
content-ask Off apart = absurd (apart refl)

-- the last answer of a page that met an old lock, at its place
module _ (at : PageInWorld) (cookie : ℕ)
    (legal : IsLegal at.opening.items at.opening.count (history at.turns))
    (page_lawful : IsLawfulPage at.turns at.number at.page)
    (met : MeetsOldLock at.page.terms at.page.past cookie)
  where
    abbrev request : Request
    request = record { key = at.page.terms.key; ask = ask_for at.page.terms.need }

    abbrev event : Event
    event = heard met.moment request (Reply (Locked cookie met.age met.since))

    heard-last : map event_of (turns_of at.number at.turns) ≡ filter is_heard met.earlier ++ event ∷ []
    heard-last = sym page_lawful.own ∙ ap (filter is_heard) met.last
        ∙ filter-append is_heard met.earlier (event ∷ [])

    place : IsLast at.number at.turns event
    place = last_turn at.number at.turns (filter is_heard met.earlier) event heard-last

    same_moment : place.turn.moment ≡ met.moment
    same_moment = cc place.answer

    same_request : place.turn.request ≡ request
    same_request = cc place.answer

    same_reply : place.turn.reply ≡ Locked cookie met.age met.since
    same_reply = cc place.answer

    abbrev told : ToldLock
    told = record { cookie = cookie; seconds = met.age }

    in_force : IsInForceFor newest at.opening.items at.opening.count at.page.terms.key told
        (history place.before) place.turn.moment
    in_force =
        lock_in_the_way newest at.opening.items at.opening.count (history at.turns) legal
        at.page.terms.key (history place.before)
        (entry_of_turn place.turn) cookie met.age met.since
        (record {
          behind = history place.behind;
          place = ap history place.place ∙ map-append entry_of_turn place.before
              (place.turn ∷ place.behind);
          on_key = (bytes_eq-Decides at.page.terms.key place.turn.request.key).1
              (sym (ap (λ (r : Request). r.key) same_request));
        })
        (ap (λ (r : Request). is_content_ask r.ask) same_request
        ∙ content-ask at.page.terms.need met.content) same_reply

    met-old : MetOldLock at cookie
    met-old = record {
      met = met;
      before = place.before;
      turn = place.turn;
      behind = place.behind;
      place = place.place;
      own = place.own;
      last = place.last;
      answer = place.answer;
      in_force = subst (IsInForceFor newest at.opening.items at.opening.count at.page.terms.key
          told (history place.before)) same_moment in_force;
    }

pub forces : (world : World)
    → IsLegal world.opening.items world.opening.count (history world.turns) → IsLawfulWorld world
    → PagesForceOldLocks world
forces world legal lawful before page behind t cookie place not_ended acts =
    let page_lawful = lawful before page behind place in
    met-old (page_in world (length before) page) cookie legal page_lawful
    (releases page.terms page.past t cookie page_lawful.lawful not_ended acts)

if-legal : (opening : Opening) (list : List Entry) (told : Option (List ℕ → Option Item))
    (P : Type 0) → TellsAfter opening.items opening.count list told
    → (IsLegal opening.items opening.count list → P) → IfTold told P
if-legal opening list None P tells f = tt
if-legal opening list (Some items) P tells f = f tells.0

module _ {K : Type 0} (G : Ghosts K) (script : Script K) (world : World)
    (stands : ScriptStands G script world)
  where
    pub lawful : IsLawfulWorld world
    lawful before page behind place =
        let at : 0 + length before ≡ length before = omega arith in
        let there = live-at world.turns 0 (length before) script.pages.items before page behind
        (subst (PagesStand world.turns 0 script.pages.items) place stands.pages) at in
        record {
          lawful = subst (λ (terms : VisitTerms). IsLawful terms page.past) there.1.terms
              there.1.past.lawful;
          own = there.1.own;
        }

    pub forced : IfTells G script (PagesForceOldLocks world)
    forced = if-legal world.opening (history world.turns) (G.told (keeper_of script))
        (PagesForceOldLocks world)
        stands.desk.stands.stands.told_is (λ legal. forces world legal lawful)
