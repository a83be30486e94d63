-- A keeper that stands for a history stands for it with one entry more.
use Rattle.std.proofs.Common.{◌≡◌, ℕ, ◌≤◌, ◌<◌, ◌^◌, Bool, true, false, List, [], ◌∷◌, ◌++◌, Option, Some, None, refl, sym, ap, ◌∙◌, arith, subst, inl}
use Rattle.std.specs.Prelude.{IfSome, IsTrue}
use Rattle.std.specs.Str.{bytes_eq}
use Rattle.std.proofs.lemmas.Bool.Decides.{nat_tests}
use Rattle.std.proofs.lemmas.Slice.Eq.{bytes_eq-Decides}
use Rattle.asp_base.specs.Causes.{Rose}
use Rattle.asp_messages.specs.declared.request.Request.{Request}
use Rattle.asp_messages.specs.declared.reply.Reply.{Reply}
use Rattle.asp_messages.specs.declared.reply.Reply.TheVariants as replies
use Rattle.asp_messages.specs.Ranges.{RequestFits, ReplyFits, KeyFits}
use Rattle.session_machine.specs.declared.entry.Entry.{Entry}
use Rattle.session_machine.specs.declared.entry.Deed.TheVariants.{Asked, Expired}
use Rattle.session_machine.specs.declared.item.Item.{Item}
use Rattle.session_machine.specs.Liveness.{ItemFits, expiry}
use Rattle.session_machine.specs.Machine.{Effect, effect, Circumstances, Step}
use Rattle.session_machine.specs.History.{IsLegal, IsFreshDraw, DrawFits, HasPlace, IsDead, item_after, count_after, has_risen, is_deed_of, after_reply}
use Rattle.session_machine.specs.Profiles.{newest}
use Rattle.session_machine.proofs.HistoryLemmas.{IsLegal-push, item_after-same, item_after-other, count_after-push, fresh-draws_rise, fresh-held_below}
use Rattle.session_machine.proofs.MachineLemmas.{DrawFits-lt, Step-fixes, EffectFits, effect-fits}
use Rattle.keeper.specs.Due.{IsFirstDue}
use Rattle.keeper.specs.Items.{StillTells}
use Rattle.shard_core.specs.declared.shard.Swept.{Swept}
use Rattle.shard_core.specs.declared.shard.Swept.TheVariants as swept
use Rattle.shard_core.specs.Acting.{IsOutOfCookies, TakesStep, TellsStep}
use Rattle.shard_core.specs.ShardStands.{AreCaused, IsCaused, StandsFor, TellsAfter, asked_entry}
use Rattle.shard_core.specs.Sweeping.{TellsRemoved, IfRemoved, IsUnmoved, swept_entry}

bytes_eq-same : (a b : List ℕ) → bytes_eq a b ≡ true → a ≡ b
bytes_eq-same a b h = (bytes_eq-Decides a b).0 h

-- ---- ranges

-- what the machine answers and leaves is in range
pub decided-fits : (old : Option Item) (t drawn : ℕ) (request : Request) (x : Effect) → t ≤ 2 ^ 62
    → DrawFits request.ask drawn
    → IfSome old ItemFits → RequestFits request → x ≡ effect newest old t drawn request.ask
    → EffectFits x
decided-fits old t drawn request x le draw fits asks is =
    subst EffectFits (sym is) (effect-fits newest old t drawn request.ask le
    (DrawFits-lt request.ask drawn draw) fits asks.ask)

-- one more entry that has its cause
AreCaused-push : (count : ℕ) (list : List Entry) (e : Entry) → AreCaused count list
    → IsCaused (count_after count list) e → AreCaused count (list ++ e ∷ [])
AreCaused-push count [] e all one = (one, tt)
AreCaused-push count (f ∷ fs) e all one = (all.0, AreCaused-push f.faults fs e all.1 one)

-- ---- a request

module _ (opening : List ℕ → Option Item) (count : ℕ) (list : List Entry)
    (caller t drawn faults before : ℕ) (request : Request) (reply : Reply)
    (few : caller < 2 ^ 63) (le : t ≤ 2 ^ 62) (fits : RequestFits request)
    (draw : DrawFits request.ask drawn)
    (reply_fits : ReplyFits reply) (place : HasPlace reply) (fresh : IsFreshDraw opening list drawn)
    (later : before ≤ faults)
    (counted : before ≡ count_after count list)
  where
    -- the request's circumstances, where the count of faults was so before
    abbrev since : ℕ → Circumstances
    since n = record { moment = t; drawn = drawn; rose = has_risen n faults }

    module _ (old new : List ℕ → Option Item) (legal : IsLegal opening count list)
        (are : (key : List ℕ) → old key ≡ item_after opening count list key)
        (acts : TakesStep old new request (since before) reply)
      where
        abbrev now : List ℕ → Option Item
        now key = item_after opening count list key

        step : Step newest (now request.key) request.ask (since (count_after count list)) reply
            (new request.key)
        step =
            subst (λ o. Step newest o request.ask (since (count_after count list)) reply
            (new request.key))
            (are request.key)
            (subst (λ n. Step newest (old request.key) request.ask (since n) reply
            (new request.key))
            counted acts.step)

        after : new request.key ≡ after_reply newest (now request.key) t drawn request.ask reply
        after = Step-fixes newest _ _ request.ask (since (count_after count list)) reply step

        stands : (key : List ℕ) → is_deed_of key (Asked request) ≡ true
            → Step newest (now key) request.ask (since (count_after count list)) reply
            (after_reply newest (now key) t drawn request.ask reply)
        stands key same =
            subst (λ k. Step newest (now k) request.ask (since (count_after count list)) reply
            (after_reply newest (now k) t drawn request.ask reply))
            (sym (bytes_eq-same key request.key same))
            (subst (Step newest (now request.key) request.ask (since (count_after count list))
            reply)
            after step)

        pub asked-legal : IsLegal opening count
            (list ++ asked_entry caller t request drawn reply faults ∷ [])
        asked-legal = IsLegal-push newest opening count list
            (asked_entry caller t request drawn reply faults) legal (record {
              formed = record {
                caller_fits = few;
                moment_fits = le;
                deed_fits =
                    (fits, draw, reply_fits, place);
              };
              counts = subst (λ n. n ≤ faults) counted later;
              draws = fresh-draws_rise opening list drawn fresh;
              fresh_draws = fresh-held_below opening list drawn fresh;
              keys = stands;
              looks = tt;
            })

        pub asked-items : (key : List ℕ) → new key
            ≡ item_after opening count (list ++ asked_entry caller t request drawn reply faults
            ∷ []) key
        asked-items key = by_key (is_deed_of key (Asked request)) refl
          where
            by_key : (b : Bool) → is_deed_of key (Asked request) ≡ b
                → new key ≡ item_after opening count
                (list ++ asked_entry caller t request drawn reply faults ∷ []) key
            by_key true same =
                let at = bytes_eq-same key request.key same in
                ap new at ∙ after
                ∙ ap (λ k. after_reply newest (now k) t drawn request.ask reply) (sym at)
                ∙ sym (item_after-same newest opening count list
                (asked_entry caller t request drawn reply faults) key same)
            by_key false other =
                acts.others key other ∙ are key
                ∙ sym (item_after-other newest opening count list
                (asked_entry caller t request drawn reply faults) key other)

    asked-told : (old new : Option (List ℕ → Option Item)) → TellsAfter opening count list old
        → TellsStep old new request (since before) reply
        → TellsAfter opening count (list ++ asked_entry caller t request drawn reply faults ∷ [])
        new
    asked-told None None told acts = tt
    asked-told None (Some new) told acts = absurd acts
    asked-told (Some old) None told acts = tt
    asked-told (Some old) (Some new) told acts =
        (asked-legal old new told.0 told.1 acts, asked-items old new told.0 told.1 acts)

    -- a request's entry behind the history
    pub asked-stands : (old new : Option (List ℕ → Option Item)) → AreCaused count list
        → TellsAfter opening count list old
        → (reply ≡ replies.KeeperFault → Rose before faults)
        → (IsOutOfCookies request.ask drawn → reply ≡ replies.CookiesOut)
        → (reply ≡ replies.CookiesOut → IsOutOfCookies request.ask drawn)
        → TellsStep old new request (since before) reply
        → StandsFor opening count (list ++ asked_entry caller t request drawn reply faults ∷ []) new
        faults
    asked-stands old new caused told rose out cookies_out acts = record {
      counted = sym (count_after-push count list (asked_entry caller t request drawn reply faults));
      caused = AreCaused-push count list (asked_entry caller t request drawn reply faults) caused
          (subst (λ n. IsCaused n (asked_entry caller t request drawn reply faults)) counted
          (record {
            formed = record {
              caller_fits = few;
              moment_fits = le;
              deed_fits = (fits, draw, reply_fits, place);
            };
            later = later;
            fault = rose;
            cookies_out = (cookies_out, out);
          }));
      told_is = asked-told old new told acts;
    }

-- ---- a look

-- an item that is due has expired
due-dead : (items : List ℕ → Option Item) (t : ℕ) (key : List ℕ) (old : Option Item)
    → old ≡ items key → IsFirstDue items t key → IsDead old t
due-dead items t key old is due = subst (λ o. IsDead o t) (sym (is ∙ due.there))
    (dead due.item due.expired)
  where
    dead : (item : Item) → expiry item ≤ t → IsDead (Some item) t
    dead item le = grind (arith, nat_tests)

module _ (opening : List ℕ → Option Item) (count : ℕ) (list : List Entry)
    (caller t faults before : ℕ)
    (few : caller < 2 ^ 63) (le : t ≤ 2 ^ 62) (later : before ≤ faults)
    (counted : before ≡ count_after count list)
  where
    -- an expired item that was removed
    removed-told : (key : List ℕ) (old new : Option (List ℕ → Option Item)) → KeyFits key
        → TellsAfter opening count list old → TellsRemoved old new t key
        → TellsAfter opening count (list ++ swept_entry caller t (swept.Removed key) faults ∷ [])
        new
    removed-told key None None fits told gone = tt
    removed-told key None (Some new) fits told gone = absurd gone
    removed-told key (Some old) None fits told gone = tt
    removed-told key (Some old) (Some new) fits told gone = (
      IsLegal-push newest opening count list (swept_entry caller t (swept.Removed key) faults)
          told.0
          (record {
            formed = record { caller_fits = few; moment_fits = le; deed_fits = (fits, refl, refl) };
            counts = subst (λ n. n ≤ faults) counted later;
            draws = inl refl;
            fresh_draws = λ some. absurd (omega (arith, some));
            keys = λ k same. (
              due-dead old t key _
                  (ap (item_after opening count list) (bytes_eq-same k key same) ∙ sym (told.1 key))
                  gone.0,
              refl,
            );
            looks = tt;
          }),
      λ k. by_key k (is_deed_of k (Expired key)) refl,
    )
      where
        by_key : (k : List ℕ) (b : Bool) → is_deed_of k (Expired key) ≡ b
            → new k ≡ item_after opening count
            (list ++ swept_entry caller t (swept.Removed key) faults ∷ []) k
        by_key k true same = ap new (bytes_eq-same k key same) ∙ gone.1.same
            ∙ sym (item_after-same newest opening count list
            (swept_entry caller t (swept.Removed key) faults) k same)
        by_key k false other = gone.1.others k other ∙ told.1 k
            ∙ sym (item_after-other newest opening count list
            (swept_entry caller t (swept.Removed key) faults) k other)

    -- a look that changed nothing
    looked-told : (result : Swept) (old new : Option (List ℕ → Option Item)) → IsUnmoved result
        → (result ≡ swept.KeeperFault → Rose before faults)
        → TellsAfter opening count list old → StillTells old new
        → TellsAfter opening count (list ++ swept_entry caller t result faults ∷ []) new
    looked-told result old None unmoved rose told same = tt
    looked-told result old (Some new) unmoved rose told same =
        subst (TellsAfter opening count (list ++ swept_entry caller t result faults ∷ []))
        same (by_result result old unmoved rose told)
      where
        risen : Rose before faults → IsTrue (has_risen (count_after count list) faults)
        risen r = subst (λ n. IsTrue (has_risen n faults)) counted (test before faults r)
          where
            test : (b n : ℕ) → Rose b n → IsTrue (has_risen b n)
            test b n r = grind (arith, nat_tests)

        by_result : (result : Swept) (old : Option (List ℕ → Option Item)) → IsUnmoved result
            → (result ≡ swept.KeeperFault → Rose before faults)
            → TellsAfter opening count list old
            → TellsAfter opening count (list ++ swept_entry caller t result faults ∷ []) old
        by_result result None unmoved rose told = tt
        by_result (swept.Removed key) (Some old) unmoved rose told = absurd unmoved
        by_result swept.Nothing (Some old) unmoved rose told = (
          IsLegal-push newest opening count list (swept_entry caller t swept.Nothing faults) told.0
              (record {
                formed = record { caller_fits = few; moment_fits = le; deed_fits = (refl, tt) };
                counts = subst (λ n. n ≤ faults) counted later;
                draws = inl refl;
                fresh_draws = λ some. absurd (omega (arith, some));
                keys = λ k same. tt;
                looks = tt;
              }),
          λ k. told.1 k ∙ sym (item_after-other newest opening count list
              (swept_entry caller t swept.Nothing faults) k refl),
        )
        by_result swept.NoMemory (Some old) unmoved rose told = (
          IsLegal-push newest opening count list (swept_entry caller t swept.NoMemory faults) told.0
              (record {
                formed = record { caller_fits = few; moment_fits = le; deed_fits = (refl, tt) };
                counts = subst (λ n. n ≤ faults) counted later;
                draws = inl refl;
                fresh_draws = λ some. absurd (omega (arith, some));
                keys = λ k same. tt;
                looks = tt;
              }),
          λ k. told.1 k ∙ sym (item_after-other newest opening count list
              (swept_entry caller t swept.NoMemory faults) k refl),
        )
        by_result swept.KeeperFault (Some old) unmoved rose told = (
          IsLegal-push newest opening count list (swept_entry caller t swept.KeeperFault faults)
              told.0
              (record {
                formed = record { caller_fits = few; moment_fits = le; deed_fits = (refl, tt) };
                counts = subst (λ n. n ≤ faults) counted later;
                draws = inl refl;
                fresh_draws = λ some. absurd (omega (arith, some));
                keys = λ k same. tt;
                looks = risen (rose refl);
              }),
          λ k. told.1 k ∙ sym (item_after-other newest opening count list
              (swept_entry caller t swept.KeeperFault faults) k refl),
        )

    -- a look's entry has its cause
    swept-caused : (result : Swept) → IfRemoved result KeyFits
        → (result ≡ swept.KeeperFault → Rose before faults)
        → IsCaused before (swept_entry caller t result faults)
    swept-caused (swept.Removed key) fits rose = record {
      formed = record { caller_fits = few; moment_fits = le; deed_fits = (fits, refl, refl) };
      later = later;
      fault = λ is. cc;
      cookies_out = (λ is. cc, λ none. absurd none);
    }
    swept-caused swept.Nothing fits rose = record {
      formed = record { caller_fits = few; moment_fits = le; deed_fits = (refl, tt) };
      later = later;
      fault = λ is. cc;
      cookies_out = (λ is. cc, λ none. absurd none);
    }
    swept-caused swept.KeeperFault fits rose = record {
      formed = record { caller_fits = few; moment_fits = le; deed_fits = (refl, tt) };
      later = later;
      fault = λ is. rose refl;
      cookies_out = (λ is. cc, λ none. absurd none);
    }
    swept-caused swept.NoMemory fits rose = record {
      formed = record { caller_fits = few; moment_fits = le; deed_fits = (refl, tt) };
      later = later;
      fault = λ is. cc;
      cookies_out = (λ is. cc, λ none. absurd none);
    }

    -- a look's entry behind the history
    pub swept-stands : (result : Swept) (old new : Option (List ℕ → Option Item))
        → IfRemoved result (TellsRemoved old new t) → IfRemoved result KeyFits
        → (IsUnmoved result → StillTells old new)
        → (result ≡ swept.KeeperFault → Rose before faults)
        → AreCaused count list → TellsAfter opening count list old →
        StandsFor opening count (list ++ swept_entry caller t result faults ∷ []) new faults
    swept-stands result old new removed fits same rose caused told = record {
      counted = sym (count_after-push count list (swept_entry caller t result faults));
      caused = AreCaused-push count list (swept_entry caller t result faults) caused
          (subst (λ n. IsCaused n (swept_entry caller t result faults)) counted
          (swept-caused result fits rose));
      told_is = by_result result removed fits same rose;
    }
      where
        by_result : (result : Swept) → IfRemoved result (TellsRemoved old new t)
            → IfRemoved result KeyFits → (IsUnmoved result → StillTells old new)
            → (result ≡ swept.KeeperFault → Rose before faults)
            → TellsAfter opening count (list ++ swept_entry caller t result faults ∷ []) new
        by_result (swept.Removed key) removed fits same rose =
            removed-told key old new fits told removed
        by_result swept.Nothing removed fits same rose =
            looked-told swept.Nothing old new tt rose told (same tt)
        by_result swept.KeeperFault removed fits same rose =
            looked-told swept.KeeperFault old new tt rose told (same tt)
        by_result swept.NoMemory removed fits same rose =
            looked-told swept.NoMemory old new tt rose told (same tt)
