-- The fields that are written.
use Rattle.std.proofs.Common.{◌≡◌, ℕ, ◌<◌, ◌≤◌, ◌^◌, Some, refl, arith}
use Rattle.std.specs.Prelude.{codes, decimal}
use Rattle.httparse.specs.Grammar.{is_token_byte, trim_ows}
use Rattle.asp_messages.specs.Fields.{Field, one, number_or, most_body}
use Rattle.asp_messages.proofs.DecimalLemmas.{number_or-decimal}
use Rattle.asp_messages.proofs.SentLemmas.{IsSent, sent_literal, sent_number}

abbrev pub timeout_pair : ℕ → Field
timeout_pair n = (codes "Timeout", decimal n)

abbrev pub lock_pair : ℕ → Field
lock_pair n = (codes "LockCookie", decimal n)

abbrev pub age_pair : ℕ → Field
age_pair n = (codes "LockAge", decimal n)

abbrev pub date_pair : ℕ → Field
date_pair n = (codes "LockDate", decimal n)

abbrev pub length_pair : ℕ → Field
length_pair n = (codes "Content-Length", decimal n)

abbrev pub first_pair : Field
first_pair = (codes "ActionFlags", codes "1")

pub timeout_sent : (n : ℕ) → n < 2 ^ 64 → IsSent (timeout_pair n)
unfolding is_token_byte
timeout_sent n small = sent_number (codes "Timeout") n refl (omega arith) (omega arith) small

pub lock_sent : (n : ℕ) → n < 2 ^ 64 → IsSent (lock_pair n)
unfolding is_token_byte
lock_sent n small = sent_number (codes "LockCookie") n refl (omega arith) (omega arith) small

pub age_sent : (n : ℕ) → n < 2 ^ 64 → IsSent (age_pair n)
unfolding is_token_byte
age_sent n small = sent_number (codes "LockAge") n refl (omega arith) (omega arith) small

pub date_sent : (n : ℕ) → n < 2 ^ 64 → IsSent (date_pair n)
unfolding is_token_byte
date_sent n small = sent_number (codes "LockDate") n refl (omega arith) (omega arith) small

pub length_sent : (n : ℕ) → n < 2 ^ 64 → IsSent (length_pair n)
unfolding is_token_byte
length_sent n small = sent_number (codes "Content-Length") n refl (omega arith) (omega arith) small

pub first_sent : IsSent first_pair
unfolding is_token_byte trim_ows
first_sent = sent_literal (codes "ActionFlags") (codes "1") refl (omega arith) refl refl
    (omega arith)

abbrev pub host_pair : Field
host_pair = (codes "Host", codes "state")

abbrev pub acquire_pair : Field
acquire_pair = (codes "Exclusive", codes "acquire")

abbrev pub release_pair : Field
release_pair = (codes "Exclusive", codes "release")

abbrev pub fresh_pair : Field
fresh_pair = (codes "ExtraFlags", codes "1")

pub host_sent : IsSent host_pair
unfolding is_token_byte trim_ows
host_sent = sent_literal (codes "Host") (codes "state") refl (omega arith) refl refl (omega arith)

pub acquire_sent : IsSent acquire_pair
unfolding is_token_byte trim_ows
acquire_sent = sent_literal (codes "Exclusive") (codes "acquire") refl (omega arith) refl refl
    (omega arith)

pub release_sent : IsSent release_pair
unfolding is_token_byte trim_ows
release_sent = sent_literal (codes "Exclusive") (codes "release") refl (omega arith) refl refl
    (omega arith)

pub fresh_sent : IsSent fresh_pair
unfolding is_token_byte trim_ows
fresh_sent = sent_literal (codes "ExtraFlags") (codes "1") refl (omega arith) refl refl
    (omega arith)

-- the length of a body reads back
pub announced : (n : ℕ) → n ≤ most_body → number_or 0 0 most_body (one (decimal n)) ≡ Some n
announced n short = number_or-decimal 0 0 most_body n (omega arith) (omega arith) short
