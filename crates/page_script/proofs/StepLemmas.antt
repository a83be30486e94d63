-- What a step adds to a page.
use Rattle.std.proofs.Common.{◌≡◌, ◌≢◌, ℕ, Bool, true, false, cond, List, [], ◌∷◌, ◌++◌, take, Some, None, Option, Ok, Err, Result, refl, sym, ap, ◌∙◌, subst, append_assoc, append-nil}
use Rattle.std.specs.Prelude.{◌==◌, ◌||◌, is_ok, OnOk, OnErr, map, filter, codes, reverse}
use Rattle.std.proofs.lemmas.Bool.{eq-eqb}
use Rattle.std.proofs.lemmas.List.{map-append, reverse-append}
use Rattle.std.proofs.lemmas.List.Elements.{filter-append}
use Rattle.asp_messages.specs.declared.request.Request.{Request}
use Rattle.asp_messages.specs.declared.request.Ask.{Ask}
use Rattle.asp_messages.specs.declared.reply.Reply.{Reply as ReplyValue}
use Rattle.asp_messages.specs.declared.reply.Reply.TheVariants as replies
use Rattle.asp_messages.specs.PlainSpelling.{ask_spelling, reply_spelling}
use Rattle.asp_messages.specs.Ranges.{ReplyFits}
use Rattle.visit_core.specs.declared.act.Ending.{Ending}
use Rattle.visit_core.specs.declared.act.Heard.{Heard}
use Rattle.visit_core.specs.declared.act.Heard.TheVariants.{Reply, Strange}
use Rattle.visit_core.specs.Acts.{Action, send, wait_until, run, over}
use Rattle.visit_core.specs.VisitRule.{Event, heard, ended, lost, act_of, act_after, after_end, after_loss, at_end, ending_ask, own_cookie, has_ended}
use Rattle.visit_core.specs.Stages.{HasPast}
use Rattle.visit_core.specs.Terms.{VisitTerms}
use Rattle.page_script.specs.declared.script_page.ScriptPage.{ScriptPage}
use Rattle.page_script.specs.World.{Page, PageInWorld, WorldTurn, Added, event_of, Performs, turn_words, run_words, with_events, turns_of, is_heard}
use Rattle.plain_desk.specs.DeskStands.{DeskState}
use Rattle.plain_desk.specs.Openings.{Opening}
use Rattle.page_script.specs.ScriptStands.{DeskHasTurns, turn_at, PageAtDesk, PageStands, EachSteps}

-- ---- results

pub on_ok : {A E : Type 0} {P Q : Type 0} (r : Result A E) → (P → Q) → OnOk r P → OnOk r Q
on_ok (Ok a) f p = f p
on_ok (Err e) f p = tt

pub on_err : {A E : Type 0} {P : Type 0} (r : Result A E) → P → OnErr r P
on_err (Ok a) p = tt
on_err (Err e) p = p

-- what was appended stays where nothing failed
pub undone_ok : {A E : Type 0} (written : Result A E) (a : A) (new printed : List ℕ) (len : ℕ)
    (P : Type 0) → Ok a ≡ written → new ≡ cond (is_ok written) printed (take len printed)
    → OnOk written P → (new ≡ printed) × P
undone_ok (Ok b) a new printed len P is items p = (items, p)
undone_ok (Err e) a new printed len P is items p = absurd (cc is)

-- what holds after a failure
pub undone_err : {A E : Type 0} (written : Result A E) (e : E) (P : Type 0) → Err e ≡ written
    → OnErr written P → P
undone_err (Ok b) e P is p = absurd (cc is)
undone_err (Err d) e P is p = p

-- ---- what a past holds

has_ended-append : (xs ys : List Event) → has_ended (xs ++ ys) ≡ (has_ended xs || has_ended ys)
has_ended-append [] ys = refl
has_ended-append (heard t request answer ∷ xs) ys = has_ended-append xs ys
has_ended-append (ended ending ∷ xs) ys = refl
has_ended-append (lost ∷ xs) ys = has_ended-append xs ys

or-swap : (a b : Bool) → (a || b) ≡ (b || a)
or-swap true true = refl
or-swap true false = refl
or-swap false true = refl
or-swap false false = refl

has_ended-push : (past : List Event) (event : Event)
    → has_ended (past ++ event ∷ []) ≡ (has_ended (event ∷ []) || has_ended past)
has_ended-push past event = has_ended-append past (event ∷ [])
    ∙ or-swap (has_ended past) (has_ended (event ∷ []))

has_ended-cons : (event : Event) (past : List Event)
    → has_ended (event ∷ past) ≡ (has_ended (event ∷ []) || has_ended past)
has_ended-cons event past = has_ended-append (event ∷ []) past

has_ended-reverse : (past : List Event) → has_ended (reverse past) ≡ has_ended past
has_ended-reverse [] = refl
has_ended-reverse (event ∷ past) =
    ap has_ended (reverse-append (event ∷ []) past) ∙ has_ended-push (reverse past) event
    ∙ ap (λ b. has_ended (event ∷ []) || b) (has_ended-reverse past)
    ∙ sym (has_ended-cons event past)

-- ---- a page runs before its end

pub end-no_run : (answer : Heard) (content : Option (List ℕ)) (first : Bool)
    → after_end answer ≢ run content first
end-no_run (Reply replies.Done) content first = λ e. cc
end-no_run (Reply replies.Missing) content first = λ e. cc
end-no_run (Reply (replies.Locked cookie age since)) content first = λ e. cc
end-no_run (Reply (replies.Found body minutes cookie mark)) content first = λ e. cc
end-no_run (Reply replies.Bad) content first = λ e. cc
end-no_run (Reply replies.KeeperFault) content first = λ e. cc
end-no_run (Reply replies.NoMemory) content first = λ e. cc
end-no_run (Reply replies.CookiesOut) content first = λ e. cc
end-no_run (Reply replies.PlacesOut) content first = λ e. cc
end-no_run (Strange status) content first = λ e. cc

pub last-no_run : (terms : VisitTerms) (ask : Option Ask) (content : Option (List ℕ)) (first : Bool)
    → at_end terms ask ≢ run content first
last-no_run terms None content first = λ e. cc
last-no_run terms (Some ask) content first = λ e. cc

pub loss-no_run : (action : Action) (content : Option (List ℕ)) (first : Bool)
    → after_loss action ≢ run content first
loss-no_run (send request) content first = λ e. cc
loss-no_run (wait_until moment) content first = λ e. cc
loss-no_run (run body mark) content first = λ e. cc
loss-no_run (over outcome) content first = λ e. cc

heard-run : (b : Bool) (answer : Heard) (action : Action) (content : Option (List ℕ)) (first : Bool)
    → cond b (after_end answer) action ≡ run content first → b ≡ false
heard-run true answer action content first is = absurd (end-no_run answer content first is)
heard-run false answer action content first is = refl

after-run : (terms : VisitTerms) (past : List Event) (t : ℕ) (content : Option (List ℕ))
    (first : Bool)
    → act_after terms past t ≡ run content first → has_ended past ≡ false
after-run terms [] t content first is = refl
after-run terms (heard u request answer ∷ past) t content first is =
    heard-run (has_ended past) answer _ content first is
after-run terms (ended ending ∷ past) t content first is =
    absurd (last-no_run terms (ending_ask terms.need (own_cookie past) ending) content first is)
after-run terms (lost ∷ past) t content first is =
    absurd (loss-no_run (act_after terms past t) content first is)

pub runs-not_ended : (terms : VisitTerms) (past : List Event) (t : ℕ) (content : Option (List ℕ))
    (first : Bool) → act_of terms past t ≡ run content first → has_ended past ≡ false
runs-not_ended terms past t content first is = sym (has_ended-reverse past)
    ∙ after-run terms (reverse past) t content first is

-- ---- the turns of a page

pub turns_of-own : (number : ℕ) (turns : List WorldTurn) (turn : WorldTurn) → turn.page ≡ number
    → turns_of number (turns ++ turn ∷ []) ≡ turns_of number turns ++ turn ∷ []
turns_of-own number turns turn own =
    filter-append (λ (other : WorldTurn). other.page == number) turns (turn ∷ [])
    ∙ ap (λ b. turns_of number turns ++ cond b (turn ∷ []) []) (eq-eqb turn.page number own)

-- ---- steps

-- a page of a script, and the desk that it asks
abbrev at_desk : ScriptPage → DeskState → PageAtDesk
at_desk page desk = record { page = page; desk = desk }

-- nothing is added but these words
abbrev only_words : List ℕ → Added
only_words words = record { events = []; asked = []; words = words }

module _ (CanCount : ℕ → Type 0) (t : ℕ) (live : ScriptPage)
  where
    -- what is printed may be said in other words
    pub EachSteps-prints : (live' : ScriptPage) (desk desk' : DeskState) (P Q : List ℕ → Type 0)
        → ((words : List ℕ) → P words → Q words)
        → EachSteps CanCount t (at_desk live desk) (at_desk live' desk') P
        → EachSteps CanCount t (at_desk live desk) (at_desk live' desk') Q
    EachSteps-prints live' desk desk' P Q more each at stands desk_stands =
        let step = each at stands desk_stands in record {
          events = step.events;
          asked = step.asked;
          words = step.words;
          acts = step.acts;
          page_stands = step.page_stands;
          desk_stands = step.desk_stands;
          prints = more step.words step.prints;
        }

    -- a step that changes nothing
    pub quiet : (desk : DeskState) (action : Action) (words : List ℕ) (Prints : List ℕ → Type 0)
        → ((past : List Event) → HasPast live.visit past → action ≡ act_of live.visit.terms past t)
        → ((at : PageInWorld) → Performs action t at (only_words words)) → Prints words
        → EachSteps CanCount t (at_desk live desk) (at_desk live desk) Prints
    quiet desk action words Prints act acts prints at stands desk_stands = record {
      events = [];
      asked = [];
      words = words;
      acts =
          subst (λ a. Performs a t at (only_words words))
          (act at.page.past stands.past ∙ ap (λ terms. act_of terms at.page.past t) stands.terms)
          (acts at);
      page_stands =
          subst (λ p. PageStands (at.turns ++ []) at.number live p)
          (ap (λ past. let p : Page = record at.page { past = past } in p)
          (sym (append-nil at.page.past)))
          (subst (λ ts. PageStands ts at.number live at.page) (sym (append-nil at.turns)) stands);
      desk_stands =
          subst (DeskHasTurns CanCount desk at.opening) (sym (append-nil at.turns)) desk_stands;
      prints = prints;
    }

    -- a request is sent, and its reply is heard
    pub sent : (live' : ScriptPage) (desk desk' : DeskState) (request : Request)
        (reply : ReplyValue) (Prints : List ℕ → Type 0)
        → live'.visit.terms ≡ live.visit.terms
        → ((past : List Event) → HasPast live.visit past
        → act_of live.visit.terms past t ≡ send request)
        → ((past : List Event) (sent : Request) → HasPast live.visit past
        → act_of live.visit.terms past t ≡ send sent
        → HasPast live'.visit (past ++ heard t sent (Reply reply) ∷ []))
        → live'.name ≡ live.name → live'.ending ≡ live.ending → ReplyFits reply
        → ((number : ℕ) (opening : Opening) (turns : List WorldTurn)
        → DeskHasTurns CanCount desk opening turns
        → DeskHasTurns CanCount desk' opening
        (turns ++ turn_at number t opening turns (record {
          request = request;
          reply = reply;
          faults = desk'.faults;
        }) ∷ []))
        → Prints ((ask_spelling request.ask ++ codes " : ") ++ reply_spelling reply)
        → EachSteps CanCount t (at_desk live desk) (at_desk live' desk') Prints
    sent live' desk desk' request reply Prints terms act hears name ending fits answers prints
        at stands desk_stands = record {
          events = event_of turn ∷ [];
          asked = turn ∷ [];
          words = turn_words turn;
          acts =
              subst (λ a. Performs a t at (record {
                events = event_of turn ∷ [];
                asked = turn ∷ [];
                words = turn_words turn;
              })) (sym (act at.page.past stands.past)
              ∙ ap (λ terms. act_of terms at.page.past t) stands.terms) (
                turn,
                record { page = refl; moment = refl; request = refl; drawn = refl; fits = fits },
                refl,
                refl,
                refl,
              );
          page_stands = record {
            name = name ∙ stands.name;
            terms = terms ∙ stands.terms;
            past = hears at.page.past request stands.past (act at.page.past stands.past);
            ending = ending ∙ stands.ending ∙ ap (λ b. cond b None (Some at.page.ending))
                (sym (has_ended-push at.page.past (event_of turn)));
            own =
                filter-append is_heard at.page.past (event_of turn ∷ [])
                ∙ ap (λ events. events ++ event_of turn ∷ []) stands.own
                ∙ sym (map-append event_of (turns_of at.number at.turns) (turn ∷ []))
                ∙ ap (map event_of) (sym (turns_of-own at.number at.turns turn refl));
          };
          desk_stands = answers at.number at.opening at.turns desk_stands;
          prints = prints;
        }
      where
        turn : WorldTurn
        turn = turn_at at.number t at.opening at.turns
            (record { request = request; reply = reply; faults = desk'.faults })

    -- a page runs, and its visit is told how it ends
    pub ran : (live' : ScriptPage) (desk : DeskState) (content : Option (List ℕ)) (first : Bool)
        (Prints : List ℕ → Type 0)
        → ((past : List Event) → HasPast live.visit past
        → run content first ≡ act_of live.visit.terms past t)
        → ((number : ℕ) (turns : List WorldTurn) (page : Page) (body : Option (List ℕ))
        (mark : Bool)
        (u : ℕ) → PageStands turns number live page
        → act_of page.terms page.past u ≡ run body mark
        → PageStands turns number live' (with_events page (ended page.ending ∷ [])))
        → Prints (run_words content first)
        → EachSteps CanCount t (at_desk live desk) (at_desk live' desk) Prints
    ran live' desk content first Prints act ends prints at stands desk_stands =
        let runs : act_of at.page.terms at.page.past t ≡ run content first =
        sym (act at.page.past stands.past ∙ ap (λ terms. act_of terms at.page.past t) stands.terms)
        in
        record {
          events = ended at.page.ending ∷ [];
          asked = [];
          words = run_words content first;
          acts = subst (λ a. Performs a t at (record {
            events = ended at.page.ending ∷ [];
            asked = [];
            words = run_words content first;
          })) (sym runs) (refl, refl, refl);
          page_stands =
              subst (λ ts. PageStands ts at.number live'
              (with_events at.page (ended at.page.ending ∷ [])))
              (sym (append-nil at.turns))
              (ends at.number at.turns at.page content first t stands runs);
          desk_stands =
              subst (DeskHasTurns CanCount desk at.opening) (sym (append-nil at.turns)) desk_stands;
          prints = prints;
        }

-- the ending that is kept until the visit is told of it
pub kept_ending : (live : ScriptPage) (turns : List WorldTurn) (number : ℕ) (page : Page)
    (content : Option (List ℕ)) (first : Bool) (t : ℕ) → PageStands turns number live page
    → act_of page.terms page.past t ≡ run content first → live.ending ≡ Some page.ending
kept_ending live turns number page content first t stands runs =
    stands.ending ∙ ap (λ b. cond b None (Some page.ending))
    (runs-not_ended page.terms page.past t content first runs)

pub finished : (live live' : ScriptPage) (ending : Ending) (turns : List WorldTurn) (number : ℕ)
    (page : Page) (content : Option (List ℕ)) (first : Bool) (t : ℕ)
    → PageStands turns number live page → act_of page.terms page.past t ≡ run content first
    → live.ending ≡ Some ending → live'.ending ≡ None → live'.name ≡ live.name
    → live'.visit.terms ≡ live.visit.terms → ((past : List Event) → HasPast live.visit past
    → HasPast live'.visit (past ++ ended ending ∷ []))
    → PageStands turns number live' (with_events page (ended page.ending ∷ []))
finished live live' ending turns number page content first t stands runs was is name terms ends =
    record {
      name = name ∙ stands.name;
      terms = terms ∙ stands.terms;
      past = subst (λ (e : Ending). HasPast live'.visit (page.past ++ ended e ∷ [])) same
          (ends page.past stands.past);
      ending = is ∙ ap (λ b. cond b None (Some page.ending))
          (sym (has_ended-push page.past (ended page.ending)));
      own = filter-append is_heard page.past (ended page.ending ∷ [])
          ∙ append-nil (filter is_heard page.past) ∙ stands.own;
    }
  where
    same : ending ≡ page.ending
    same = let both : Some ending ≡ Some page.ending = sym was
        ∙ kept_ending live turns number page content first t stands runs in cc

-- ---- the printed line

pub line-joined : (out start printed head words : List ℕ) → start ≡ out ++ (head ++ codes " ")
    → printed ≡ start ++ (words ++ 10 ∷ []) →
    printed ≡ out ++ ((head ++ codes " " ++ words) ++ 10 ∷ [])
line-joined out start printed head words is more =
    more ∙ ap (λ s. s ++ (words ++ 10 ∷ [])) is
    ∙ append_assoc out (head ++ codes " ") (words ++ 10 ∷ [])
    ∙ ap (λ s. out ++ s) (sym (append_assoc (head ++ codes " ") words (10 ∷ [])))

pub turn-joined : (out start printed ask reply : List ℕ) → start ≡ out ++ (ask ++ codes " : ")
    → printed ≡ start ++ (reply ++ 10 ∷ []) →
    printed ≡ out ++ (((ask ++ codes " : ") ++ reply) ++ 10 ∷ [])
turn-joined out start printed ask reply is more =
    more ∙ ap (λ s. s ++ (reply ++ 10 ∷ [])) is
    ∙ append_assoc out (ask ++ codes " : ") (reply ++ 10 ∷ [])
    ∙ ap (λ s. out ++ s) (sym (append_assoc (ask ++ codes " : ") reply (10 ∷ [])))
