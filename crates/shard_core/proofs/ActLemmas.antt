-- What one call of a shard did, and its entry behind the history.
use Rattle.std.proofs.Common.{◌≡◌, ℕ, ◌≤◌, ◌<◌, ◌^◌, Bool, true, false, cond, List, [], ◌∷◌, ◌++◌, Option, Some, None, refl, sym, ap, ◌∙◌, arith, subst}
use Rattle.std.specs.Prelude.{IfSome, IsTrue, ◌==◌}
use Rattle.std.proofs.lemmas.Bool.Decides.{nat_tests}
use Rattle.asp_base.specs.Causes.{Rose}
use Rattle.asp_messages.specs.declared.request.Ask.{Ask}
use Rattle.asp_messages.specs.declared.request.Ask.TheVariants.{Read, Acquire, Release, Write, Remove, Reset}
use Rattle.asp_messages.specs.declared.request.Request.{Request}
use Rattle.asp_messages.specs.declared.reply.Reply.{Reply}
use Rattle.asp_messages.specs.declared.reply.Reply.TheVariants as replies
use Rattle.asp_messages.specs.Ranges.{RequestFits, KeyFits}
use Rattle.session_machine.specs.declared.decision.Kind.{Kind}
use Rattle.session_machine.specs.declared.decision.Kind.TheVariants as kinds
use Rattle.session_machine.specs.declared.decision.Verdict.{Verdict}
use Rattle.session_machine.specs.declared.item.Item.{Item}
use Rattle.session_machine.specs.declared.item.Hold.{Hold}
use Rattle.session_machine.specs.Liveness.{ItemFits, seen}
use Rattle.session_machine.specs.Machine.{Effect, effect, on_absent, on_free, on_held, on_there, on_seen, touch, in_the_way, Circumstances, Step}
use Rattle.session_machine.specs.declared.entry.Entry.{Entry}
use Rattle.session_machine.specs.History.{DrawFits, IsFreshDraw, has_risen}
use Rattle.session_machine.specs.Profiles.{newest}
use Rattle.session_machine.proofs.MachineLemmas.{EffectFits}
use Rattle.session_machine.specs.Verdicts.{effect_of, reply_of, changed}
use Rattle.keeper.specs.declared.keeping.KeepError.{KeepError}
use Rattle.keeper.specs.declared.keeping.KeepError.TheVariants as errors
use Rattle.keeper.specs.Due.{TellsDue}
use Rattle.keeper.specs.Items.{StillTells, TellsItem, TellsSets}
use Rattle.shard_core.specs.Acting.{IsOutOfCookies, TakesStep, TellsStep, refusal_of}
use Rattle.shard_core.specs.declared.shard.Swept.{Swept}
use Rattle.shard_core.specs.declared.shard.Swept.TheVariants as swept
use Rattle.shard_core.specs.ShardStands.{StandsFor, asked_entry}
use Rattle.shard_core.specs.Sweeping.{TellsRemoved, IfRemoved, IsUnmoved, refused_look, swept_entry}
use Rattle.shard_core.proofs.ShardLemmas.{asked-stands, decided-fits, swept-stands}

-- a keeper that tells on over two calls tells on over both
pub still_tells : (old mid new : Option (List ℕ → Option Item)) → StillTells old mid
    → StillTells mid new → StillTells old new
still_tells old mid None first second = tt
still_tells old mid (Some new) first second = subst (StillTells old) second first

-- a count that rose in the second of two calls rose over both
pub rose_over : (before mid now : ℕ) → before ≤ mid → Rose mid now → Rose before now
rose_over before mid now le rose = omega (arith, le, rose)

-- ---- a request that the keeper refused

stays : (error : KeepError) (items : List ℕ → Option Item) (request : Request) (at : Circumstances)
    → (error ≡ errors.Fault → IsTrue at.rose)
    → TakesStep items items request at (refusal_of error)
stays errors.Fault items request at rose = record {
  step = (rose refl, refl);
  others = λ other apart. refl;
}
stays errors.NoMemory items request at rose = record {
  step = refl;
  others = λ other apart. refl;
}

-- a request that the keeper refused changes nothing
pub refused-step : (error : KeepError) (old new : Option (List ℕ → Option Item))
    (request : Request) (at : Circumstances) → StillTells old new
    → (error ≡ errors.Fault → IsTrue at.rose)
    → TellsStep old new request at (refusal_of error)
refused-step error None None request at same rose = tt
refused-step error (Some old) None request at same rose = tt
refused-step error old (Some new) request at same rose =
    subst (λ o. TellsStep o (Some new) request at (refusal_of error)) (sym same)
    (stays error new request at rose)

-- ---- a request that the machine answered

own-step : (kind : Kind) (item : Option Item) (ask : Ask) (at : Circumstances) (new : Option Item)
    → (reply_of kind item, new) ≡ effect newest item at.moment at.drawn ask
    → Step newest item ask at (reply_of kind item) new
own-step (kinds.Found cookie first) None ask at new is = is
own-step (kinds.Found cookie first) (Some item) ask at new is = is
own-step kinds.Done item ask at new is = is
own-step (kinds.Locked cookie age since) item ask at new is = is
own-step kinds.Missing item ask at new is = is
own-step kinds.CookiesOut item ask at new is = is

-- where the keeper made the change of the verdict, its items took the step
pub answered-step : (verdict : Verdict) (item : Option Item)
    (old mid new : Option (List ℕ → Option Item)) (request : Request) (at : Circumstances)
    → effect_of verdict item request.ask ≡ effect newest item at.moment at.drawn request.ask
    → StillTells old mid → TellsItem mid request.key item
    → TellsSets mid new request.key (changed verdict.change item request.ask)
    → TellsStep old new request at (reply_of verdict.kind item)
answered-step verdict item None mid None request at is same tells sets = tt
answered-step verdict item (Some old) mid None request at is same tells sets = tt
answered-step verdict item old None (Some new) request at is same tells sets = absurd sets
answered-step verdict item old (Some mid) (Some new) request at is same tells sets =
    subst (λ o. TellsStep o (Some new) request at (reply_of verdict.kind item)) (sym same) takes
  where
    own : Step newest item request.ask at (reply_of verdict.kind item) (new request.key)
    own = own-step verdict.kind item request.ask at (new request.key)
        (ap (λ n. (reply_of verdict.kind item, n)) sets.same ∙ is)

    takes : TakesStep mid new request at (reply_of verdict.kind item)
    takes = record {
      step = subst (λ o. Step newest o request.ask at (reply_of verdict.kind item)
          (new request.key)) tells own;
      others = sets.others;
    }

-- the machine itself answers no fault
pub own-no_fault : (kind : Kind) (item : Option Item) → reply_of kind item ≡ replies.KeeperFault → ⊥
own-no_fault (kinds.Found cookie first) None is = cc
own-no_fault (kinds.Found cookie first) (Some item) is = cc
own-no_fault kinds.Done item is = cc
own-no_fault (kinds.Locked cookie age since) item is = cc
own-no_fault kinds.Missing item is = cc
own-no_fault kinds.CookiesOut item is = cc

if-no : (b : Bool) (x y : Effect) → (x.0 ≡ replies.CookiesOut → ⊥)
    → (y.0 ≡ replies.CookiesOut → ⊥) → (cond b x y).0 ≡ replies.CookiesOut → ⊥
if-no true x y first second = first
if-no false x y first second = second

absent-no : (t : ℕ) (ask : Ask) → (on_absent newest t ask).0 ≡ replies.CookiesOut → ⊥
absent-no t Read is = cc
absent-no t Acquire is = cc
absent-no t (Release cookie) is = cc
absent-no t (Write body minutes fresh None) is = cc
absent-no t (Write body minutes fresh (Some cookie)) is = cc
absent-no t (Remove cookie) is = cc
absent-no t Reset is = cc

free-no : (item : Item) (t drawn : ℕ) (ask : Ask)
    → (on_free item t drawn ask).0 ≡ replies.CookiesOut → ⊥
free-no item t drawn Read is = cc
free-no item t drawn Acquire is = cc
free-no item t drawn (Release cookie) is = cc
free-no item t drawn (Write body minutes true None) is = cc
free-no item t drawn (Write body minutes false None) is = cc
free-no item t drawn (Write body minutes true (Some cookie)) is = cc
free-no item t drawn (Write body minutes false (Some cookie)) is = cc
free-no item t drawn (Remove None) is = cc
free-no item t drawn (Remove (Some cookie)) is = cc
free-no item t drawn Reset is = cc

held-no : (item : Item) (hold : Hold) (t : ℕ) (ask : Ask)
    → (on_held newest item hold t ask).0 ≡ replies.CookiesOut → ⊥
held-no item hold t Read is = cc
held-no item hold t Acquire is = cc
held-no item hold t (Release cookie) is = if-no (cookie == hold.cookie)
    (replies.Done, Some (touch t (record item { holder = None })))
    (in_the_way newest hold t, Some item) (λ e. cc) (λ e. cc) is
held-no item hold t (Write body minutes true None) is = cc
held-no item hold t (Write body minutes false None) is = cc
held-no item hold t (Write body minutes true (Some cookie)) is = if-no (cookie == hold.cookie) (
  replies.Done,
  Some (touch t (record item {
    body = body;
    minutes = minutes;
    fresh = true;
    holder = None;
  })),
)
    (in_the_way newest hold t, Some item) (λ e. cc) (λ e. cc) is
held-no item hold t (Write body minutes false (Some cookie)) is = if-no (cookie == hold.cookie) (
  replies.Done,
  Some (touch t (record item {
    body = body;
    minutes = minutes;
    fresh = false;
    holder = None;
  })),
)
    (in_the_way newest hold t, Some item) (λ e. cc) (λ e. cc) is
held-no item hold t (Remove None) is = cc
held-no item hold t (Remove (Some cookie)) is = if-no (cookie == hold.cookie) (replies.Done, None)
    (in_the_way newest hold t, Some item) (λ e. cc) (λ e. cc) is
held-no item hold t Reset is = cc

there-no : (item : Item) (holder : Option Hold) (t drawn : ℕ) (ask : Ask)
    → (on_there newest item holder t drawn ask).0 ≡ replies.CookiesOut → ⊥
there-no item None t drawn ask is = free-no item t drawn ask is
there-no item (Some hold) t drawn ask is = held-no item hold t ask is

seen-no : (found : Option Item) (t drawn : ℕ) (ask : Ask)
    → (on_seen newest found t drawn ask).0 ≡ replies.CookiesOut → ⊥
seen-no None t drawn ask is = absent-no t ask is
seen-no (Some item) t drawn ask is = there-no item item.holder t drawn ask is

-- want of cookies is answered only to an acquire that drew none
pub effect-cookies : (old : Option Item) (t drawn : ℕ) (ask : Ask)
    → (effect newest old t drawn ask).0 ≡ replies.CookiesOut → IsOutOfCookies ask drawn
effect-cookies old t drawn Acquire is = by_draw (drawn == 0) refl is
  where
    by_draw : (b : Bool) → (drawn == 0) ≡ b
        → (cond b (replies.CookiesOut, old) (on_seen newest (seen old t) t drawn Acquire)).0
        ≡ replies.CookiesOut → IsOutOfCookies Acquire drawn
    by_draw true e is = (refl, grind (arith, nat_tests))
    by_draw false e is = absurd (seen-no (seen old t) t drawn Acquire is)
effect-cookies old t drawn Read is = absurd (seen-no (seen old t) t drawn Read is)
effect-cookies old t drawn (Release cookie) is =
    absurd (seen-no (seen old t) t drawn (Release cookie) is)
effect-cookies old t drawn (Write body minutes fresh cookie) is =
    absurd (seen-no (seen old t) t drawn (Write body minutes fresh cookie) is)
effect-cookies old t drawn (Remove cookie) is =
    absurd (seen-no (seen old t) t drawn (Remove cookie) is)
effect-cookies old t drawn Reset is = absurd (seen-no (seen old t) t drawn Reset is)

-- ---- an acquire for which no cookie was left

out-effect : (ask : Ask) (t drawn : ℕ) (old : Option Item) → IsOutOfCookies ask drawn
    → (replies.CookiesOut, old) ≡ effect newest old t drawn ask
out-effect ask t drawn old out =
    subst (λ a. (replies.CookiesOut, old) ≡ effect newest old t drawn a) (sym out.0)
    (subst (λ n. (replies.CookiesOut, old) ≡ effect newest old t n Acquire) (sym out.1) refl)

out-step : (told : Option (List ℕ → Option Item)) (request : Request) (at : Circumstances)
    → IsOutOfCookies request.ask at.drawn → TellsStep told told request at replies.CookiesOut
out-step None request at out = tt
out-step (Some items) request at out = record {
  step = out-effect request.ask at.moment at.drawn (items request.key) out;
  others = λ other apart. refl;
}

-- ---- the entry of a request behind the history

risen : (before faults : ℕ) → Rose before faults → IsTrue (has_risen before faults)
risen before faults r = grind (arith, nat_tests)

module _ (opening : List ℕ → Option Item) (count : ℕ) (list : List Entry)
    (caller t drawn before faults : ℕ) (request : Request) (reply : Reply)
    (old : Option (List ℕ → Option Item))
    (few : caller < 2 ^ 63) (le : t ≤ 2 ^ 62) (fits : RequestFits request)
    (draw : DrawFits request.ask drawn) (new_draw : IsFreshDraw opening list drawn)
    (stands : StandsFor opening count list old before)
  where
    abbrev at : Circumstances
    at = record { moment = t; drawn = drawn; rose = has_risen before faults }

    abbrev GoesOn : Option (List ℕ → Option Item) → Reply → Type 0
    GoesOn new reply = StandsFor opening count
        (list ++ asked_entry caller t request drawn reply faults ∷ []) new faults

    -- no cookie was left, and nothing was done
    pub out-goes_on : faults ≡ before → IsOutOfCookies request.ask drawn
        → reply ≡ replies.CookiesOut → GoesOn old reply
    out-goes_on same out is = subst (GoesOn old) (sym is)
        (asked-stands opening count list caller t drawn faults before request replies.CookiesOut
        few le fits draw tt tt new_draw (omega (arith, same)) stands.counted old old stands.caused
        stands.told_is (λ e. cc) (λ none. refl) (λ e. out) (out-step old request at out))

    -- the keeper refused a call
    pub refused-goes_on : (error : KeepError) (new : Option (List ℕ → Option Item))
        → (IsOutOfCookies request.ask drawn → ⊥) → StillTells old new → before ≤ faults
        → (error ≡ errors.Fault → Rose before faults) → reply ≡ refusal_of error → GoesOn new reply
    refused-goes_on error new some same later rose is = subst (GoesOn new) (sym is)
        (by_error error rose (refused-step error old new request at same
        (λ e. risen before faults (rose e))))
      where
        by_error : (error : KeepError) → (error ≡ errors.Fault → Rose before faults)
            → TellsStep old new request at (refusal_of error) → GoesOn new (refusal_of error)
        by_error errors.Fault rose step =
            asked-stands opening count list caller t drawn faults before request
            replies.KeeperFault few le fits draw tt tt new_draw later stands.counted old new
            stands.caused stands.told_is (λ e. rose refl) (λ none. absurd (some none)) (λ e. cc)
            step
        by_error errors.NoMemory rose step =
            asked-stands opening count list caller t drawn faults before request replies.NoMemory
            few le fits draw tt tt new_draw later stands.counted old new stands.caused
            stands.told_is (λ e. cc) (λ none. absurd (some none)) (λ e. cc) step

    -- the machine answered, and the keeper made its change
    pub answered-goes_on : (verdict : Verdict) (item : Option Item)
        (mid new : Option (List ℕ → Option Item)) → (IsOutOfCookies request.ask drawn → ⊥)
        → IfSome item ItemFits
        → effect_of verdict item request.ask ≡ effect newest item t drawn request.ask
        → StillTells old mid → TellsItem mid request.key item
        → TellsSets mid new request.key (changed verdict.change item request.ask)
        → before ≤ faults → reply ≡ reply_of verdict.kind item → GoesOn new reply
    answered-goes_on verdict item mid new some item_fits decided same tells sets later is =
        subst (GoesOn new) (sym is)
        (asked-stands opening count list caller t drawn faults before request own few le fits draw
        answer.0 answer.1 new_draw later stands.counted old new stands.caused stands.told_is
        (λ e. absurd (own-no_fault verdict.kind item e)) (λ none. absurd (some none))
        (λ e. effect-cookies item t drawn request.ask (sym (ap (λ (x : Effect). x.0) decided) ∙ e))
        (answered-step verdict item old mid new request at decided same tells sets))
      where
        own : Reply
        own = reply_of verdict.kind item

        answer : EffectFits (effect_of verdict item request.ask)
        answer = decided-fits item t drawn request (effect_of verdict item request.ask) le draw
            item_fits fits decided

-- ---- the entry of a look behind the history

tells-removed : (old mid new : Option (List ℕ → Option Item)) (t : ℕ) (key : List ℕ)
    → StillTells old mid → TellsDue mid t (Some key) → TellsSets mid new key None
    → TellsRemoved old new t key
tells-removed None mid None t key same due sets = tt
tells-removed (Some old) mid None t key same due sets = tt
tells-removed old None (Some new) t key same due sets = absurd sets
tells-removed old (Some mid) (Some new) t key same due sets =
    subst (λ o. TellsRemoved o (Some new) t key) (sym same) (due, sets)

no_removal : (result : Swept) (P : List ℕ → Type 0) → IsUnmoved result → IfRemoved result P
no_removal (swept.Removed key) P unmoved = absurd unmoved
no_removal swept.Nothing P unmoved = tt
no_removal swept.KeeperFault P unmoved = tt
no_removal swept.NoMemory P unmoved = tt

module _ (opening : List ℕ → Option Item) (count : ℕ) (list : List Entry)
    (caller t before faults : ℕ) (old : Option (List ℕ → Option Item))
    (few : caller < 2 ^ 63) (le : t ≤ 2 ^ 62)
    (stands : StandsFor opening count list old before)
  where
    abbrev LookGoesOn : Option (List ℕ → Option Item) → Swept → Type 0
    LookGoesOn new result = StandsFor opening count
        (list ++ swept_entry caller t result faults ∷ []) new faults

    unmoved-goes_on : (result : Swept) (new : Option (List ℕ → Option Item)) → IsUnmoved result
        → StillTells old new → before ≤ faults → (result ≡ swept.KeeperFault → Rose before faults)
        → LookGoesOn new result
    unmoved-goes_on result new unmoved same later rose =
        swept-stands opening count list caller t faults before few le later stands.counted result
        old new (no_removal result (TellsRemoved old new t) unmoved)
        (no_removal result KeyFits unmoved) (λ u. same) rose stands.caused stands.told_is

    -- no item had expired
    pub nothing-goes_on : (new : Option (List ℕ → Option Item)) → StillTells old new
        → before ≤ faults → LookGoesOn new swept.Nothing
    nothing-goes_on new same later = unmoved-goes_on swept.Nothing new tt same later (λ e. cc)

    -- the keeper refused a call of the look
    pub refused_look-goes_on : (error : KeepError) (result : Swept)
        (new : Option (List ℕ → Option Item)) → StillTells old new → before ≤ faults
        → (error ≡ errors.Fault → Rose before faults) → result ≡ refused_look error
        → LookGoesOn new result
    refused_look-goes_on error result new same later rose is = subst (LookGoesOn new) (sym is)
        (by_error error rose)
      where
        by_error : (error : KeepError) → (error ≡ errors.Fault → Rose before faults)
            → LookGoesOn new (refused_look error)
        by_error errors.Fault rose =
            unmoved-goes_on swept.KeeperFault new tt same later (λ e. rose refl)
        by_error errors.NoMemory rose = unmoved-goes_on swept.NoMemory new tt same later (λ e. cc)

    -- an item was removed
    pub removed-goes_on : (key : List ℕ) (mid new : Option (List ℕ → Option Item)) → KeyFits key
        → StillTells old mid → TellsDue mid t (Some key) → TellsSets mid new key None
        → before ≤ faults → LookGoesOn new (swept.Removed key)
    removed-goes_on key mid new fits same due sets later =
        swept-stands opening count list caller t faults before few le later stands.counted
        (swept.Removed key) old new (tells-removed old mid new t key same due sets) fits
        (λ u. absurd u) (λ e. cc) stands.caused stands.told_is
