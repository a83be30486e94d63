-- The machine keeps what is in range in range, and a verdict of its effect is a step.
use Rattle.std.proofs.Common.{◌≡◌, ℕ, ◌≤◌, ◌<◌, ◌^◌, Bool, true, false, cond, Some, None, Option, refl, ap, arith, subst}
use Rattle.std.specs.Prelude.{IfSome, ◌==◌}
use Rattle.std.proofs.lemmas.Bool.Decides.{nat_tests}
use Rattle.asp_messages.specs.declared.request.Ask.{Ask}
use Rattle.asp_messages.specs.declared.request.Ask.TheVariants.{Read, Acquire, Release, Write, Remove, Reset}
use Rattle.asp_messages.specs.declared.reply.Reply.{Reply}
use Rattle.asp_messages.specs.declared.reply.Reply.TheVariants as replies
use Rattle.asp_messages.specs.Ranges.{AskFits, ReplyFits, SinceFits}
use Rattle.session_machine.specs.declared.item.Item.{Item}
use Rattle.session_machine.specs.declared.item.Hold.{Hold}
use Rattle.session_machine.specs.declared.item.Profile.{Profile}
use Rattle.session_machine.specs.declared.item.Profile.TheVariants.{One, Two, Three}
use Rattle.session_machine.specs.Liveness.{ItemFits, seen, is_live, age}
use Rattle.session_machine.specs.Machine.{Effect, on_absent, on_free, on_held, on_there, on_seen, effect, Circumstances, Step}
use Rattle.session_machine.specs.Profiles.{end_of, told_since}
use Rattle.session_machine.specs.History.{DrawFits, HasPlace, after_reply}

-- the state after a step is the one that its reply fixes
pub Step-fixes : (profile : Profile) (old new : Option Item) (ask : Ask) (at : Circumstances) (reply
    : Reply)
    → Step profile old ask at reply new → new ≡ after_reply profile old at.moment at.drawn ask reply
Step-fixes profile old new ask at replies.NoMemory h = h
Step-fixes profile old new ask at replies.KeeperFault h = h.1
Step-fixes profile old new ask at (replies.Found body minutes cookie first) h =
    ap (λ (x : Effect). x.1) h
Step-fixes profile old new ask at replies.Done h = ap (λ (x : Effect). x.1) h
Step-fixes profile old new ask at (replies.Locked cookie a since) h = ap (λ (x : Effect). x.1) h
Step-fixes profile old new ask at replies.Missing h = ap (λ (x : Effect). x.1) h
Step-fixes profile old new ask at replies.Bad h = ap (λ (x : Effect). x.1) h
Step-fixes profile old new ask at replies.CookiesOut h = ap (λ (x : Effect). x.1) h
Step-fixes profile old new ask at replies.PlacesOut h = ap (λ (x : Effect). x.1) h

-- a cookie that was drawn is in range
pub DrawFits-lt : (ask : Ask) (drawn : ℕ) → DrawFits ask drawn → drawn < 2 ^ 63
DrawFits-lt Acquire drawn fits = fits
DrawFits-lt Read drawn fits = omega (arith, fits)
DrawFits-lt (Release cookie) drawn fits = omega (arith, fits)
DrawFits-lt (Write body minutes fresh cookie) drawn fits = omega (arith, fits)
DrawFits-lt (Remove cookie) drawn fits = omega (arith, fits)
DrawFits-lt Reset drawn fits = omega (arith, fits)

-- what a effect answers and leaves is in range, and has a place
abbrev pub EffectFits : Effect → Type 0
EffectFits x = ReplyFits x.0 × HasPlace x.0 × IfSome x.1 ItemFits

-- an item that is made ends in range
end-fits : (profile : Profile) (t : ℕ) → t ≤ 2 ^ 62 → end_of profile t < 2 ^ 63
end-fits One t le = omega arith
end-fits Two t le = omega arith
end-fits Three t le = omega arith

absent-fits : (profile : Profile) (t : ℕ) (ask : Ask) → t ≤ 2 ^ 62 → AskFits ask
    → EffectFits (on_absent profile t ask)
absent-fits profile t Read le fits = (tt, tt, tt)
absent-fits profile t Acquire le fits = (tt, tt, tt)
absent-fits profile t (Release cookie) le fits = (tt, tt, tt)
absent-fits profile t (Write body minutes fresh None) le fits = (
  tt,
  tt,
  record {
    body = fits.0;
    some_minutes = fits.1.0;
    minutes = fits.1.1;
    touched =
        le;
    ends = end-fits profile t le;
    cookie = tt;
    since = tt;
  },
)
absent-fits profile t (Write body minutes fresh (Some cookie)) le fits = (tt, tt, tt)
absent-fits profile t (Remove cookie) le fits = (tt, tt, tt)
absent-fits profile t Reset le fits = (tt, tt, tt)

read-fits : (item : Item) (t drawn : ℕ) → t ≤ 2 ^ 62 → ItemFits item
    → EffectFits (on_free item t drawn Read)
read-fits item t drawn le fits = (
  (fits.body, (fits.some_minutes, fits.minutes), tt),
  tt,
  record {
    body = fits.body;
    some_minutes = fits.some_minutes;
    minutes = fits.minutes;
    touched =
        omega (arith, fits.touched);
    ends = fits.ends;
    cookie = fits.cookie;
    since = fits.since;
  },
)

free-fits : (item : Item) (t drawn : ℕ) (ask : Ask) → t ≤ 2 ^ 62 → drawn < 2 ^ 63
    → (ask ≡ Acquire → 0 < drawn) → ItemFits item → AskFits ask
    → EffectFits (on_free item t drawn ask)
free-fits item t drawn Read le small some fits asks = read-fits item t drawn le fits
free-fits item t drawn Acquire le small some fits asks = (
  (fits.body, (fits.some_minutes, fits.minutes), (some refl, small)),
  tt,
  record {
    body = fits.body;
    some_minutes = fits.some_minutes;
    minutes = fits.minutes;
    touched =
        omega (arith, fits.touched);
    ends = fits.ends;
    cookie = (some refl, small);
    since = le;
  },
)
free-fits item t drawn (Release cookie) le small some fits asks = (tt, tt, fits)
free-fits item t drawn (Write body minutes true None) le small some fits asks = (tt, tt, fits)
free-fits item t drawn (Write body minutes false None) le small some fits asks = (
  tt,
  tt,
  record {
    body = asks.0;
    some_minutes = asks.1.0;
    minutes = asks.1.1;
    touched =
        omega (arith, fits.touched);
    ends = fits.ends;
    cookie = fits.cookie;
    since = fits.since;
  },
)
free-fits item t drawn (Write body minutes true (Some cookie)) le small some fits asks =
    ((omega arith, omega arith, tt), tt, fits)
free-fits item t drawn (Write body minutes false (Some cookie)) le small some fits asks =
    ((omega arith, omega arith, tt), tt, fits)
free-fits item t drawn (Remove None) le small some fits asks = (tt, tt, tt)
free-fits item t drawn (Remove (Some cookie)) le small some fits asks =
    ((omega arith, omega arith, tt), tt, fits)
free-fits item t drawn Reset le small some fits asks = (
  tt,
  tt,
  record {
    body = fits.body;
    some_minutes = fits.some_minutes;
    minutes = fits.minutes;
    touched =
        omega (arith, fits.touched);
    ends = fits.ends;
    cookie = fits.cookie;
    since = fits.since;
  },
)

-- the moment that is told of a hold in range is in range
told-fits : (profile : Profile) (hold : Hold) → hold.since ≤ 2 ^ 62
    → SinceFits (told_since profile hold)
told-fits One hold early = tt
told-fits Two hold early = tt
told-fits Three hold early = early

-- and a hold in range is in the way in range
way-fits : (profile : Profile) (hold : Hold) (t : ℕ) → t ≤ 2 ^ 62 → hold.cookie < 2 ^ 63
    → hold.since ≤ 2 ^ 62
    → (hold.cookie < 2 ^ 63) × (age hold t ≤ 2 ^ 62) × SinceFits (told_since profile hold)
way-fits profile hold t le small early = (small, omega arith, told-fits profile hold early)

either : (b : Bool) (x y : Effect) → EffectFits x → EffectFits y → EffectFits (cond b x y)
either true x y p q = p
either false x y p q = q

held-fits : (profile : Profile) (item : Item) (hold : Hold) (t : ℕ) (ask : Ask) → t ≤ 2 ^ 62
    → hold.cookie < 2 ^ 63 → hold.since ≤ 2 ^ 62
    → ItemFits item → AskFits ask → EffectFits (on_held profile item hold t ask)
held-fits profile item hold t Read le small early fits asks =
    (way-fits profile hold t le small early, tt, fits)
held-fits profile item hold t Acquire le small early fits asks =
    (way-fits profile hold t le small early, tt, fits)
held-fits profile item hold t (Release cookie) le small early fits asks =
    either (cookie == hold.cookie) _ _ (
      tt,
      tt,
      record {
        body = fits.body;
        some_minutes = fits.some_minutes;
        minutes =
            fits.minutes;
        touched = omega (arith, fits.touched);
        ends = fits.ends;
        cookie = tt;
        since = tt;
      },
    )
    (way-fits profile hold t le small early, tt, fits)
held-fits profile item hold t (Write body minutes true None) le small early fits asks = (
  tt,
  tt,
  fits,
)
held-fits profile item hold t (Write body minutes false None) le small early fits asks =
    (way-fits profile hold t le small early, tt, fits)
held-fits profile item hold t (Write body minutes true (Some cookie)) le small early fits asks =
    either (cookie == hold.cookie) _ _ (
      tt,
      tt,
      record {
        body = asks.0;
        some_minutes = asks.1.0;
        minutes = asks.1.1;
        touched =
            omega (arith, fits.touched);
        ends = fits.ends;
        cookie = tt;
        since = tt;
      },
    )
    (way-fits profile hold t le small early, tt, fits)
held-fits profile item hold t (Write body minutes false (Some cookie)) le small early fits asks =
    either (cookie == hold.cookie) _ _ (
      tt,
      tt,
      record {
        body = asks.0;
        some_minutes = asks.1.0;
        minutes = asks.1.1;
        touched =
            omega (arith, fits.touched);
        ends = fits.ends;
        cookie = tt;
        since = tt;
      },
    )
    (way-fits profile hold t le small early, tt, fits)
held-fits profile item hold t (Remove None) le small early fits asks =
    (way-fits profile hold t le small early, tt, fits)
held-fits profile item hold t (Remove (Some cookie)) le small early fits asks =
    either (cookie == hold.cookie) _ _ (tt, tt, tt) (
      way-fits profile hold t le small early,
      tt,
      fits,
    )
held-fits profile item hold t Reset le small early fits asks = (
  tt,
  tt,
  record {
    body = fits.body;
    some_minutes = fits.some_minutes;
    minutes = fits.minutes;
    touched =
        omega (arith, fits.touched);
    ends = fits.ends;
    cookie = fits.cookie;
    since = fits.since;
  },
)

there-fits : (profile : Profile) (item : Item) (holder : Option Hold) (t drawn : ℕ) (ask : Ask)
    → item.holder ≡ holder
    → t ≤ 2 ^ 62 → drawn < 2 ^ 63 → (ask ≡ Acquire → 0 < drawn) → ItemFits item → AskFits ask
    → EffectFits (on_there profile item holder t drawn ask)
there-fits profile item None t drawn ask is le small some fits asks =
    free-fits item t drawn ask le small some fits asks
there-fits profile item (Some hold) t drawn ask is le small some fits asks =
    held-fits profile item hold t ask le
    (subst (λ o. IfSome o (λ h. (0 < h.cookie) × (h.cookie < 2 ^ 63))) is fits.cookie).1
    (subst (λ o. IfSome o (λ h. h.since ≤ 2 ^ 62)) is fits.since) fits asks

seen-fits : (old : Option Item) (t : ℕ) → IfSome old ItemFits → IfSome (seen old t) ItemFits
seen-fits None t fits = tt
seen-fits (Some item) t fits = by_life (is_live item t)
  where
    by_life : (b : Bool) → IfSome (cond b (Some item) None) ItemFits
    by_life true = fits
    by_life false = tt

on_seen-fits : (profile : Profile) (old : Option Item) (t drawn : ℕ) (ask : Ask) → t ≤ 2 ^ 62
    → drawn < 2 ^ 63
    → (ask ≡ Acquire → 0 < drawn) → IfSome old ItemFits → AskFits ask
    → EffectFits (on_seen profile old t drawn ask)
on_seen-fits profile None t drawn ask le small some fits asks = absent-fits profile t ask le asks
on_seen-fits profile (Some item) t drawn ask le small some fits asks =
    there-fits profile item item.holder t drawn ask refl le small some fits asks

-- an effect is in range
pub effect-fits : (profile : Profile) (old : Option Item) (t drawn : ℕ) (ask : Ask) → t ≤ 2 ^ 62
    → drawn < 2 ^ 63
    → IfSome old ItemFits → AskFits ask → EffectFits (effect profile old t drawn ask)
effect-fits profile old t drawn Acquire le small fits asks = by_draw (drawn == 0) refl
  where
    by_draw : (b : Bool) → (drawn == 0) ≡ b →
        EffectFits (cond b (replies.CookiesOut, old) (on_seen profile (seen old t) t drawn Acquire))
    by_draw true e = (tt, tt, fits)
    by_draw false e = on_seen-fits profile (seen old t) t drawn Acquire le small
        (λ _. grind (arith, nat_tests)) (seen-fits old t fits) asks
effect-fits profile old t drawn Read le small fits asks =
    on_seen-fits profile (seen old t) t drawn Read le small (λ e. cc) (seen-fits old t fits) asks
effect-fits profile old t drawn (Release cookie) le small fits asks =
    on_seen-fits profile (seen old t) t drawn (Release cookie) le small (λ e. cc) (seen-fits old t
    fits)
    asks
effect-fits profile old t drawn (Write body minutes fresh cookie) le small fits asks =
    on_seen-fits profile (seen old t) t drawn (Write body minutes fresh cookie) le small (λ e. cc)
    (seen-fits old t fits) asks
effect-fits profile old t drawn (Remove cookie) le small fits asks =
    on_seen-fits profile (seen old t) t drawn (Remove cookie) le small (λ e. cc) (seen-fits old t
    fits) asks
effect-fits profile old t drawn Reset le small fits asks =
    on_seen-fits profile (seen old t) t drawn Reset le small (λ e. cc) (seen-fits old t fits) asks
