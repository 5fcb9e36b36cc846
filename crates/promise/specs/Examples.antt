-- Examples of our own beside 01's (coder, Examples), as one table over the definitions, and its one proof. They see what those don't: each
-- generator, the order of the bits, the tie rule, what stands in each burst that is sent. What is said was worked out by the independent
-- reference, which `./test` asks again.
use Rattle.std.specs.Prelude.{Bool, true, List, [], ◌∷◌, ◌++◌, ◌≡◌, refl, ℕ, ◌+◌, ◌*◌, ◌/◌, ◌%◌, eqb, leb, get_or, take, drop}
use Rattle.answers.specs.Answers.{sent_or, tells}
use Rattle.bits.specs.Bits.{pick, both, largest, none_over, is_missing, tab, tab_from, add, zeros, ones, digits, value, differ}
use Rattle.parity.specs.Division.{occurs, product, lower, divide, remainder, parity, speech_g, control_g, access_g, sch_g}
use Rattle.drawing.specs.Drawing.{control_taps, is_tap, fed_back, from_below, cell_at, clocked, clocked_in}
use Rattle.convolution.specs.Pairs.{back, first, second, coded_at, coded, pair_of}
use Rattle.register.specs.Register.{from, bit, way, best, choice, walk}
use Rattle.trellis.specs.Lost.{among, without}
use Rattle.trellis.specs.Nearest.{pair_cost, row_at, nearest, nearest_count}
use Rattle.places.specs.Places.{hl, place_at, bit_at, flag_in, cell, burst, four, flags_of}
use Rattle.coder.specs.Blocks.{speech_p, speech_u_at, speech_u, speech_block, control_u, control_block, colour, access_u, access_burst, sch_u}
use Rattle.coder.specs.Entries.{judged, entry, speech_sent, control_sent, access_sent}
use Rattle.coder.specs.Examples.{ones_from, Example, is, all_hold}
use Rattle.stream.specs.Sending.{block_of, fresh_sender, send_judged, send_told, sent_bursts, sent_next, send_answer, end_judged, end_told, end_bursts, end_answer, afterwards}
use Rattle.promise.specs.Promise.{send_all, made}

-- n bits that follow no simple rule; n bits of which bit k alone is 1; 260 bits of which d(188) to d(195) are 1, which are sent as c(384) to c(391)
abbrev pub mixed : ℕ → List ℕ
mixed n = tab n (λ k. k * k / 3 % 2)

abbrev pub single : ℕ → ℕ → List ℕ
single n k = tab n (λ i. pick (eqb i k) 1 0)

abbrev pub lit : List ℕ
lit = tab 260 (λ k. pick (both (leb 188 k) (leb k 195)) 1 0)

-- a FACCH and a speech block that are sent as the same 456 bits (02, M-101: such speech comes out as FACCH where as many flags are 1 as are 0). The FACCH has ones
-- at d(0) and d(4); the speech has those of u at d(0) and d(8), and the FACCH's last 78 coded bits for its own
abbrev pub facch_too : List ℕ
facch_too = tab 184 (λ k. pick (eqb k 0) 1 (pick (eqb k 4) 1 0))

abbrev pub speech_too : List ℕ
speech_too = tab 182 (λ k. pick (eqb k 0) 1 (pick (eqb k 8) 1 0)) ++ drop 378 (control_block facch_too)

-- eight received pairs to which several blocks are nearest, and eight from which the nearest is four away
abbrev pub tied : List ℕ
tied = 0 ∷ 0 ∷ 0 ∷ 0 ∷ 1 ∷ 0 ∷ 0 ∷ 1 ∷ 1 ∷ 0 ∷ 0 ∷ 1 ∷ 0 ∷ 1 ∷ 1 ∷ 1 ∷ []

abbrev pub four_away : List ℕ
four_away = 0 ∷ 0 ∷ 1 ∷ 1 ∷ 0 ∷ 0 ∷ 0 ∷ 1 ∷ 1 ∷ 0 ∷ 0 ∷ 0 ∷ 1 ∷ 1 ∷ 1 ∷ 1 ∷ []

-- 02, M-102: eight pairs of which twelve bits are missing, to which several blocks are nearest; and eight of which all are missing
abbrev pub lossy_tied : List ℕ
lossy_tied = 2 ∷ 2 ∷ 2 ∷ 2 ∷ 2 ∷ 2 ∷ 2 ∷ 2 ∷ 1 ∷ 0 ∷ 2 ∷ 2 ∷ 0 ∷ 1 ∷ 2 ∷ 2 ∷ []

abbrev pub nothing_came : List ℕ
nothing_came = 2 ∷ 2 ∷ 2 ∷ 2 ∷ 2 ∷ 2 ∷ 2 ∷ 2 ∷ 2 ∷ 2 ∷ 2 ∷ 2 ∷ 2 ∷ 2 ∷ 2 ∷ 2 ∷ []

-- 02, M-108: the pairs of 1 1 1 0 0 0 0 0 without the even places, which leave no doubt; and without two whole pairs besides, which zeros agree with too
abbrev pub even_gone : List ℕ
even_gone = 2 ∷ 1 ∷ 2 ∷ 0 ∷ 2 ∷ 0 ∷ 2 ∷ 0 ∷ 2 ∷ 0 ∷ 2 ∷ 0 ∷ 2 ∷ 1 ∷ 2 ∷ 0 ∷ []

abbrev pub pairs_gone : List ℕ
pairs_gone = 2 ∷ 2 ∷ 2 ∷ 0 ∷ 2 ∷ 0 ∷ 2 ∷ 0 ∷ 2 ∷ 0 ∷ 2 ∷ 0 ∷ 2 ∷ 2 ∷ 2 ∷ 0 ∷ []

-- 02, M-108: a speech block that, where five of its bursts are lost, four even ones and one odd, arrives as a block of zeros does: nobody can tell them apart. Its ones are
-- d(60), d(62), d(64), d(72), d(74), d(76), which are u(30), u(31), u(32), u(36), u(37), u(38)
abbrev pub twin : List ℕ
twin = tab 260 (λ k. pick (among (60 ∷ 62 ∷ 64 ∷ 72 ∷ 74 ∷ 76 ∷ []) k) 1 0)

abbrev pub five_lost : ℕ → Bool
five_lost k = among (0 ∷ 2 ∷ 4 ∷ 5 ∷ 6 ∷ []) (k % 8)

-- u of eight bits, the last four 0, and the count
abbrev pub decoded : List ℕ → List ℕ
decoded r = nearest r 8 ++ (nearest_count r 8 ∷ [])

-- what the lent buffers held; hl and hu of each of twelve bursts
abbrev pub lent : ℕ → List ℕ
lent i = zeros 464

abbrev pub flags_sent : List ℕ → List ℕ
flags_sent e = tab 24 (λ i. get_or e (116 * (i / 2) + hl + i % 2) 0)

-- 02, M-104: the bits that docs/DRAWING.md follows by hand, from which the cells of the control drawing are worked out
abbrev pub by_hand : List ℕ
by_hand = 1 ∷ 0 ∷ 1 ∷ 0 ∷ 0 ∷ 0 ∷ 0 ∷ 0 ∷ 0 ∷ 0 ∷ 0 ∷ 0 ∷ 0 ∷ 0 ∷ 1 ∷ 0 ∷ 0 ∷ []

unfoldable pub table : List Example
table =
    is (take 40 (drop 184 (control_u (mixed 184)))) (1 ∷ 0 ∷ 1 ∷ 0 ∷ 0 ∷ 1 ∷ 1 ∷ 1 ∷ 1 ∷ 0 ∷ 0 ∷ 0 ∷ 0 ∷ 0 ∷ 0 ∷ 0 ∷ 1 ∷ 1 ∷ 0 ∷ 0 ∷ 1 ∷ 0 ∷ 0 ∷ 0 ∷ 1 ∷ 1 ∷ 1 ∷ 1 ∷ 1 ∷ 0 ∷ 0 ∷ 1 ∷ 1 ∷ 1 ∷ 0 ∷ 1 ∷ 1 ∷ 0 ∷ 1 ∷ 0 ∷ [])
    ∷ is (take 10 (drop 25 (sch_u (mixed 25)))) (1 ∷ 1 ∷ 0 ∷ 1 ∷ 0 ∷ 0 ∷ 1 ∷ 0 ∷ 1 ∷ 1 ∷ [])
    ∷ is (access_sent 13 (mixed 8) (zeros 36)).left (0 ∷ 0 ∷ 0 ∷ 0 ∷ 1 ∷ 1 ∷ 1 ∷ 0 ∷ 1 ∷ 0 ∷ 1 ∷ 0 ∷ 0 ∷ 0 ∷ 0 ∷ 0 ∷ 1 ∷ 1 ∷ 1 ∷ 1 ∷ 1 ∷ 0 ∷ 0 ∷ 1 ∷ 0 ∷ 0 ∷ 1 ∷ 0 ∷ 1 ∷ 0 ∷ 1 ∷ 1 ∷ 0 ∷ 0 ∷ 1 ∷ 1 ∷ [])
    ∷ is (ones_from 0 (speech_sent (single 260 1) (zeros 456)).left) (184 ∷ 185 ∷ 186 ∷ 189 ∷ 190 ∷ 191 ∷ 194 ∷ 195 ∷ 368 ∷ 369 ∷ 371 ∷ 374 ∷ 375 ∷ 376 ∷ 377 ∷ [])
    ∷ is (ones_from 0 (speech_sent (single 260 2) (zeros 456)).left) (2 ∷ 3 ∷ 5 ∷ 8 ∷ 9 ∷ 10 ∷ 11 ∷ 182 ∷ 183 ∷ 185 ∷ 186 ∷ 187 ∷ 188 ∷ 190 ∷ 191 ∷ 192 ∷ 193 ∷ 194 ∷ 195 ∷ [])
    ∷ is (ones_from 0 (speech_sent (single 260 49) (zeros 456)).left) (182 ∷ 183 ∷ 185 ∷ 188 ∷ 189 ∷ 190 ∷ 191 ∷ 320 ∷ 321 ∷ 323 ∷ 326 ∷ 327 ∷ 328 ∷ 329 ∷ [])
    ∷ is (ones_from 0 (speech_sent (single 260 50) (zeros 456)).left) (50 ∷ 51 ∷ 53 ∷ 56 ∷ 57 ∷ 58 ∷ 59 ∷ 182 ∷ 183 ∷ 184 ∷ 186 ∷ 188 ∷ 194 ∷ 195 ∷ [])
    ∷ is (ones_from 0 (speech_sent (single 260 181) (zeros 456)).left) (182 ∷ 183 ∷ 184 ∷ 186 ∷ 189 ∷ 191 ∷ 196 ∷ 197 ∷ [])
    ∷ is (ones_from 0 (speech_sent (single 260 182) (zeros 456)).left) (182 ∷ 183 ∷ 184 ∷ 186 ∷ 188 ∷ 194 ∷ 195 ∷ 378 ∷ [])
    ∷ is (decoded tied) (0 ∷ 0 ∷ 1 ∷ 0 ∷ 0 ∷ 0 ∷ 0 ∷ 0 ∷ 6 ∷ [])
    ∷ is (decoded four_away) (0 ∷ 1 ∷ 1 ∷ 0 ∷ 0 ∷ 0 ∷ 0 ∷ 0 ∷ 4 ∷ [])
    ∷ is (decoded lossy_tied) (1 ∷ 0 ∷ 0 ∷ 1 ∷ 0 ∷ 0 ∷ 0 ∷ 0 ∷ 1 ∷ [])
    ∷ is (decoded nothing_came) (0 ∷ 0 ∷ 0 ∷ 0 ∷ 0 ∷ 0 ∷ 0 ∷ 0 ∷ 0 ∷ [])
    ∷ is (decoded even_gone) (1 ∷ 1 ∷ 1 ∷ 0 ∷ 0 ∷ 0 ∷ 0 ∷ 0 ∷ 0 ∷ [])
    ∷ is (decoded pairs_gone) (0 ∷ 0 ∷ 0 ∷ 0 ∷ 0 ∷ 0 ∷ 0 ∷ 0 ∷ 0 ∷ [])
    ∷ is (ones_from 0 (without five_lost (speech_sent twin (zeros 456)).left)) (183 ∷ 195 ∷ [])
    ∷ is (ones_from 0 (without five_lost (speech_sent (zeros 260) (zeros 456)).left)) (183 ∷ 195 ∷ [])
    ∷ is (ones_from 0 (made lent (lit ∷ []))) (12 ∷ 20 ∷ 228 ∷ 322 ∷ 328 ∷ 336 ∷ 422 ∷ 428 ∷ 529 ∷ 537 ∷ 627 ∷ 727 ∷ 749 ∷ 827 ∷ 849 ∷ [])
    ∷ is (flags_sent (made lent (mixed 184 ∷ mixed 260 ∷ []))) (0 ∷ 1 ∷ 0 ∷ 1 ∷ 0 ∷ 1 ∷ 0 ∷ 1 ∷ 1 ∷ 0 ∷ 1 ∷ 0 ∷ 1 ∷ 0 ∷ 1 ∷ 0 ∷ 0 ∷ 0 ∷ 0 ∷ 0 ∷ 0 ∷ 0 ∷ 0 ∷ 0 ∷ [])
    ∷ is (ones_from 0 (control_sent facch_too (zeros 456)).left) (0 ∷ 1 ∷ 3 ∷ 6 ∷ 7 ∷ 11 ∷ 14 ∷ 15 ∷ 16 ∷ 17 ∷ 380 ∷ 381 ∷ 383 ∷ 389 ∷ 391 ∷ 392 ∷ 393 ∷ 394 ∷ 395 ∷ 397 ∷ 398 ∷ 401 ∷ 402 ∷ 404 ∷ 406 ∷ 408 ∷ 410 ∷ 412 ∷ 414 ∷ 417 ∷ 425 ∷ 426 ∷ 427 ∷ 428 ∷ 430 ∷ 431 ∷ 435 ∷ 437 ∷ 438 ∷ 439 ∷ 440 ∷ 441 ∷ 443 ∷ 444 ∷ 447 ∷ 449 ∷ 454 ∷ 455 ∷ [])
    ∷ is (ones_from 0 (speech_sent speech_too (zeros 456)).left) (0 ∷ 1 ∷ 3 ∷ 6 ∷ 7 ∷ 11 ∷ 14 ∷ 15 ∷ 16 ∷ 17 ∷ 380 ∷ 381 ∷ 383 ∷ 389 ∷ 391 ∷ 392 ∷ 393 ∷ 394 ∷ 395 ∷ 397 ∷ 398 ∷ 401 ∷ 402 ∷ 404 ∷ 406 ∷ 408 ∷ 410 ∷ 412 ∷ 414 ∷ 417 ∷ 425 ∷ 426 ∷ 427 ∷ 428 ∷ 430 ∷ 431 ∷ 435 ∷ 437 ∷ 438 ∷ 439 ∷ 440 ∷ 441 ∷ 443 ∷ 444 ∷ 447 ∷ 449 ∷ 454 ∷ 455 ∷ [])
    ∷ is (clocked_in control_taps (zeros 40) by_hand) (1 ∷ 0 ∷ 0 ∷ 1 ∷ 0 ∷ 0 ∷ 0 ∷ 0 ∷ 0 ∷ 0 ∷ 0 ∷ 0 ∷ 0 ∷ 0 ∷ 1 ∷ 0 ∷ 1 ∷ 0 ∷ 0 ∷ 1 ∷ 0 ∷ 0 ∷ 0 ∷ 1 ∷ 0 ∷ 0 ∷ 1 ∷ 0 ∷ 0 ∷ 0 ∷ 0 ∷ 1 ∷ 0 ∷ 1 ∷ 0 ∷ 0 ∷ 0 ∷ 1 ∷ 0 ∷ 1 ∷ [])
    ∷ []

pub examples : all_hold table ≡ true
unfolding all_hold table tab tab_from add zeros ones digits value largest none_over is_missing occurs product lower divide remainder parity speech_g control_g access_g sch_g back first second coded_at coded pair_of from bit way best choice walk differ pair_cost row_at nearest nearest_count place_at bit_at flag_in cell burst four flags_of speech_p speech_u_at speech_u speech_block control_u control_block colour access_u access_burst sch_u judged entry speech_sent control_sent access_sent tells sent_or block_of fresh_sender send_judged send_told sent_bursts sent_next send_answer end_judged end_told end_bursts end_answer afterwards send_all made among without control_taps is_tap fed_back from_below cell_at clocked clocked_in
examples = refl
