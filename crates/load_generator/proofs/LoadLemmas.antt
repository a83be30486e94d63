-- A load goes on by one request.
use Rattle.std.proofs.Common.{◌≡◌, ℕ, ◌+◌, ◌<◌, Bool, true, false, cond, List, [], ◌∷◌, ◌++◌, length, refl, ap, ◌∙◌, arith}
use Rattle.std.specs.Prelude.{◌==◌}
use Rattle.std.proofs.lemmas.List.Sums.{count_by-le-length, sum_by-append}
use Rattle.asp_messages.specs.declared.reply.Reply.{Reply}
use Rattle.asp_messages.specs.declared.reply.Reply.TheVariants as replies
use Rattle.asp_messages.specs.Fields.{most_cookie}
use Rattle.asp_messages.specs.ReplyText.{http_status}
use Rattle.plain_desk.specs.Draws.{draw_of, draws, deed_draws, draws_in}
use Rattle.session_machine.specs.declared.entry.Entry.{Entry}
use Rattle.session_machine.specs.declared.entry.Deed.TheVariants.{Asked}
use Rattle.load_generator.specs.declared.status_counts.Counts.{Counts}
use Rattle.load_generator.specs.StatusCounting.{CountsAre, AreBelow, counted, counts_text}
use Rattle.load_generator.specs.Load.{Generating, next_request, next_moment, generator_after, generated, AreMade}
use Rattle.load_generator.specs.LoadRun.{count_of, load_text}

-- ---- the generator

pub generated-push : (g : Generating) (es : List Entry) (e : Entry)
    → generated g (es ++ e ∷ []) ≡ generator_after (generated g es) e.reply
generated-push g [] e = refl
generated-push g (f ∷ fs) e = generated-push (generator_after g f.reply) fs e

pub AreMade-push : (g : Generating) (j : ℕ) (es : List Entry) (e : Entry) → AreMade g j es
    → e.caller ≡ 0 → e.moment ≡ next_moment (generated g es)
    → e.deed ≡ Asked (next_request (generated g es))
    → e.drawn ≡ draw_of 1 most_cookie (j + draws_in es) (next_request (generated g es)).ask
    → AreMade g j (es ++ e ∷ [])
AreMade-push g j [] e made caller moment deed drawn = (
  caller,
  moment,
  deed,
  drawn ∙ ap (λ n. draw_of 1 most_cookie n (next_request g).ask)
      (omega arith),
  tt,
)
AreMade-push g j (f ∷ fs) e made caller moment deed drawn =
    let first : deed_draws f.deed ≡ draws (next_request g).ask = ap deed_draws made.2 in (
      made.0,
      made.1,
      made.2,
      made.3,
      AreMade-push (generator_after g f.reply) (j + draws (next_request g).ask) fs e made.4
          caller moment deed
          (drawn ∙ ap (λ n. draw_of 1 most_cookie n (next_request (generated g (f ∷ fs))).ask)
          (omega (arith, first))),
    )

-- ---- counts

pub count_of-push : (status : ℕ) (es : List Entry) (e : Entry)
    → count_of status (es ++ e ∷ []) ≡ count_of status es
    + cond (http_status e.reply == status) 1 0
count_of-push status es e = sum_by-append (λ (f : Entry). cond (http_status f.reply == status) 1
    0) es (e ∷ []) ∙ ap (λ n. count_of status es + n) (omega arith)

-- the counts with the reply of one entry more
pub CountsAre-push : (counts : Counts) (es : List Entry) (e : Entry) → CountsAre counts es
    → CountsAre (counted counts e.reply) (es ++ e ∷ [])
CountsAre-push counts es e are = by_reply e.reply refl
  where
    with_reply : (reply : Reply) → e.reply ≡ reply → (status : ℕ)
        → count_of status (es ++ e ∷ []) ≡ count_of status es
        + cond (http_status reply == status) 1 0
    with_reply reply is status = count_of-push status es e
        ∙ ap (λ r. count_of status es + cond (http_status r == status) 1 0) is

    same : (reply : Reply) → e.reply ≡ reply → (status n : ℕ) → n ≡ count_of status es
        → (http_status reply == status) ≡ false → n ≡ count_of status (es ++ e ∷ [])
    same reply is status n before other = let more = with_reply reply is status
        ∙ ap (λ (b : Bool). count_of status es + cond b 1 0) other in omega (arith, before, more)

    more : (reply : Reply) → e.reply ≡ reply → (status n : ℕ) → n ≡ count_of status es
        → (http_status reply == status) ≡ true → n + 1 ≡ count_of status (es ++ e ∷ [])
    more reply is status n before this = let one = with_reply reply is status
        ∙ ap (λ (b : Bool). count_of status es + cond b 1 0) this in omega (arith, before, one)

    by_reply : (reply : Reply) → e.reply ≡ reply → CountsAre (counted counts reply) (es ++ e ∷ [])
    by_reply (replies.Found body minutes cookie first) is = let r =
        replies.Found body minutes cookie first in
        record {
          ok = more r is 200 counts.ok are.ok refl;
          bad =
              same r is 400 counts.bad are.bad refl;
          missing =
              same r is 404 counts.missing are.missing refl;
          locked =
              same r is 423 counts.locked are.locked refl;
          faults =
              same r is 500 counts.faults are.faults refl;
          no_memory =
              same r is 503 counts.no_memory are.no_memory refl;
          cookies_out =
              same r is 507 counts.cookies_out are.cookies_out refl;
        }
    by_reply replies.Done is = let r = replies.Done in
        record {
          ok = more r is 200 counts.ok are.ok refl;
          bad =
              same r is 400 counts.bad are.bad refl;
          missing =
              same r is 404 counts.missing are.missing refl;
          locked =
              same r is 423 counts.locked are.locked refl;
          faults =
              same r is 500 counts.faults are.faults refl;
          no_memory =
              same r is 503 counts.no_memory are.no_memory refl;
          cookies_out =
              same r is 507 counts.cookies_out are.cookies_out refl;
        }
    by_reply (replies.Locked cookie age since) is = let r = replies.Locked cookie age since in
        record {
          ok = same r is 200 counts.ok are.ok refl;
          bad =
              same r is 400 counts.bad are.bad refl;
          missing =
              same r is 404 counts.missing are.missing refl;
          locked =
              more r is 423 counts.locked are.locked refl;
          faults =
              same r is 500 counts.faults are.faults refl;
          no_memory =
              same r is 503 counts.no_memory are.no_memory refl;
          cookies_out =
              same r is 507 counts.cookies_out are.cookies_out refl;
        }
    by_reply replies.Missing is = let r = replies.Missing in
        record {
          ok = same r is 200 counts.ok are.ok refl;
          bad =
              same r is 400 counts.bad are.bad refl;
          missing =
              more r is 404 counts.missing are.missing refl;
          locked =
              same r is 423 counts.locked are.locked refl;
          faults =
              same r is 500 counts.faults are.faults refl;
          no_memory =
              same r is 503 counts.no_memory are.no_memory refl;
          cookies_out =
              same r is 507 counts.cookies_out are.cookies_out refl;
        }
    by_reply replies.Bad is = let r = replies.Bad in
        record {
          ok = same r is 200 counts.ok are.ok refl;
          bad =
              more r is 400 counts.bad are.bad refl;
          missing =
              same r is 404 counts.missing are.missing refl;
          locked =
              same r is 423 counts.locked are.locked refl;
          faults =
              same r is 500 counts.faults are.faults refl;
          no_memory =
              same r is 503 counts.no_memory are.no_memory refl;
          cookies_out =
              same r is 507 counts.cookies_out are.cookies_out refl;
        }
    by_reply replies.KeeperFault is = let r = replies.KeeperFault in
        record {
          ok = same r is 200 counts.ok are.ok refl;
          bad =
              same r is 400 counts.bad are.bad refl;
          missing =
              same r is 404 counts.missing are.missing refl;
          locked =
              same r is 423 counts.locked are.locked refl;
          faults =
              more r is 500 counts.faults are.faults refl;
          no_memory =
              same r is 503 counts.no_memory are.no_memory refl;
          cookies_out =
              same r is 507 counts.cookies_out are.cookies_out refl;
        }
    by_reply replies.NoMemory is = let r = replies.NoMemory in
        record {
          ok = same r is 200 counts.ok are.ok refl;
          bad =
              same r is 400 counts.bad are.bad refl;
          missing =
              same r is 404 counts.missing are.missing refl;
          locked =
              same r is 423 counts.locked are.locked refl;
          faults =
              same r is 500 counts.faults are.faults refl;
          no_memory =
              more r is 503 counts.no_memory are.no_memory refl;
          cookies_out =
              same r is 507 counts.cookies_out are.cookies_out refl;
        }
    by_reply replies.CookiesOut is = let r = replies.CookiesOut in
        record {
          ok = same r is 200 counts.ok are.ok refl;
          bad =
              same r is 400 counts.bad are.bad refl;
          missing =
              same r is 404 counts.missing are.missing refl;
          locked =
              same r is 423 counts.locked are.locked refl;
          faults =
              same r is 500 counts.faults are.faults refl;
          no_memory =
              same r is 503 counts.no_memory are.no_memory refl;
          cookies_out =
              more r is 507 counts.cookies_out are.cookies_out refl;
        }
    by_reply replies.PlacesOut is = let r = replies.PlacesOut in
        record {
          ok = same r is 200 counts.ok are.ok refl;
          bad =
              same r is 400 counts.bad are.bad refl;
          missing =
              same r is 404 counts.missing are.missing refl;
          locked =
              same r is 423 counts.locked are.locked refl;
          faults =
              same r is 500 counts.faults are.faults refl;
          no_memory =
              same r is 503 counts.no_memory are.no_memory refl;
          cookies_out =
              same r is 507 counts.cookies_out are.cookies_out refl;
        }

-- no count is greater than the number of entries
pub CountsAre-below : (counts : Counts) (es : List Entry) (n : ℕ) → CountsAre counts es
    → length es < n → AreBelow n counts
CountsAre-below counts es n are few = record {
  ok = below 200 counts.ok are.ok;
  bad = below 400 counts.bad are.bad;
  missing = below 404 counts.missing are.missing;
  locked = below 423 counts.locked are.locked;
  faults = below 500 counts.faults are.faults;
  no_memory = below 503 counts.no_memory are.no_memory;
  cookies_out = below 507 counts.cookies_out are.cookies_out;
}
  where
    below : (status c : ℕ) → c ≡ count_of status es → c < n
    below status c is = let le = count_by-le-length (λ (e : Entry). http_status e.reply == status)
        es in omega (arith, is, le, few)

-- the text with these counts is that of the entries
pub counts_text-is : (counts : Counts) (requests removals : List Entry) → CountsAre counts requests
    → counts_text (length requests) counts (length removals) ≡ load_text requests removals
unfolding load_text
counts_text-is counts requests removals are =
    rw (are.ok, are.bad, are.missing, are.locked, are.faults, are.no_memory, are.cookies_out) refl
