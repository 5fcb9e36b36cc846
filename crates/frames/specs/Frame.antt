-- 02, M-113: the frame of GSM 08.60 (document 001) that carries full rate speech: what stands in each of its 40 octets, how it is written, and how it is read.
use Rattle.std.specs.Prelude.{Bool, true, false, List, [], ◌∷◌, ℕ, zero, suc, ◌/◌, ◌%◌, eqb, get_or}
use Rattle.bits.specs.Bits.{pick, all_below, tab}
use Rattle.order.specs.Order.{from1, fetched, put_back}
use Rattle.tables.specs.FullRate.{importance}
use Rattle.frames.specs.Octets.{packed}

-- ---- 001, 3.1.1: what stands in a bit of the frame. A 0 of the sync pattern, a fixed 1, a control bit, a data bit or a time alignment bit
pub data Place : Type 0 where
  sync : Place
  one : Place
  C : ℕ → Place
  D : ℕ → Place
  T : ℕ → Place

-- the frame as it is printed: octets 0 to 39, each from bit 1 to bit 8
unfoldable pub printed : List (List Place)
printed =
    (sync ∷ sync ∷ sync ∷ sync ∷ sync ∷ sync ∷ sync ∷ sync ∷ []) ∷
    (sync ∷ sync ∷ sync ∷ sync ∷ sync ∷ sync ∷ sync ∷ sync ∷ []) ∷
    (one ∷ C 1 ∷ C 2 ∷ C 3 ∷ C 4 ∷ C 5 ∷ C 6 ∷ C 7 ∷ []) ∷
    (C 8 ∷ C 9 ∷ C 10 ∷ C 11 ∷ C 12 ∷ C 13 ∷ C 14 ∷ C 15 ∷ []) ∷
    (one ∷ D 1 ∷ D 2 ∷ D 3 ∷ D 4 ∷ D 5 ∷ D 6 ∷ D 7 ∷ []) ∷
    (D 8 ∷ D 9 ∷ D 10 ∷ D 11 ∷ D 12 ∷ D 13 ∷ D 14 ∷ D 15 ∷ []) ∷
    (one ∷ D 16 ∷ D 17 ∷ D 18 ∷ D 19 ∷ D 20 ∷ D 21 ∷ D 22 ∷ []) ∷
    (D 23 ∷ D 24 ∷ D 25 ∷ D 26 ∷ D 27 ∷ D 28 ∷ D 29 ∷ D 30 ∷ []) ∷
    (one ∷ D 31 ∷ D 32 ∷ D 33 ∷ D 34 ∷ D 35 ∷ D 36 ∷ D 37 ∷ []) ∷
    (D 38 ∷ D 39 ∷ D 40 ∷ D 41 ∷ D 42 ∷ D 43 ∷ D 44 ∷ D 45 ∷ []) ∷
    (one ∷ D 46 ∷ D 47 ∷ D 48 ∷ D 49 ∷ D 50 ∷ D 51 ∷ D 52 ∷ []) ∷
    (D 53 ∷ D 54 ∷ D 55 ∷ D 56 ∷ D 57 ∷ D 58 ∷ D 59 ∷ D 60 ∷ []) ∷
    (one ∷ D 61 ∷ D 62 ∷ D 63 ∷ D 64 ∷ D 65 ∷ D 66 ∷ D 67 ∷ []) ∷
    (D 68 ∷ D 69 ∷ D 70 ∷ D 71 ∷ D 72 ∷ D 73 ∷ D 74 ∷ D 75 ∷ []) ∷
    (one ∷ D 76 ∷ D 77 ∷ D 78 ∷ D 79 ∷ D 80 ∷ D 81 ∷ D 82 ∷ []) ∷
    (D 83 ∷ D 84 ∷ D 85 ∷ D 86 ∷ D 87 ∷ D 88 ∷ D 89 ∷ D 90 ∷ []) ∷
    (one ∷ D 91 ∷ D 92 ∷ D 93 ∷ D 94 ∷ D 95 ∷ D 96 ∷ D 97 ∷ []) ∷
    (D 98 ∷ D 99 ∷ D 100 ∷ D 101 ∷ D 102 ∷ D 103 ∷ D 104 ∷ D 105 ∷ []) ∷
    (one ∷ D 106 ∷ D 107 ∷ D 108 ∷ D 109 ∷ D 110 ∷ D 111 ∷ D 112 ∷ []) ∷
    (D 113 ∷ D 114 ∷ D 115 ∷ D 116 ∷ D 117 ∷ D 118 ∷ D 119 ∷ D 120 ∷ []) ∷
    (one ∷ D 121 ∷ D 122 ∷ D 123 ∷ D 124 ∷ D 125 ∷ D 126 ∷ D 127 ∷ []) ∷
    (D 128 ∷ D 129 ∷ D 130 ∷ D 131 ∷ D 132 ∷ D 133 ∷ D 134 ∷ D 135 ∷ []) ∷
    (one ∷ D 136 ∷ D 137 ∷ D 138 ∷ D 139 ∷ D 140 ∷ D 141 ∷ D 142 ∷ []) ∷
    (D 143 ∷ D 144 ∷ D 145 ∷ D 146 ∷ D 147 ∷ D 148 ∷ D 149 ∷ D 150 ∷ []) ∷
    (one ∷ D 151 ∷ D 152 ∷ D 153 ∷ D 154 ∷ D 155 ∷ D 156 ∷ D 157 ∷ []) ∷
    (D 158 ∷ D 159 ∷ D 160 ∷ D 161 ∷ D 162 ∷ D 163 ∷ D 164 ∷ D 165 ∷ []) ∷
    (one ∷ D 166 ∷ D 167 ∷ D 168 ∷ D 169 ∷ D 170 ∷ D 171 ∷ D 172 ∷ []) ∷
    (D 173 ∷ D 174 ∷ D 175 ∷ D 176 ∷ D 177 ∷ D 178 ∷ D 179 ∷ D 180 ∷ []) ∷
    (one ∷ D 181 ∷ D 182 ∷ D 183 ∷ D 184 ∷ D 185 ∷ D 186 ∷ D 187 ∷ []) ∷
    (D 188 ∷ D 189 ∷ D 190 ∷ D 191 ∷ D 192 ∷ D 193 ∷ D 194 ∷ D 195 ∷ []) ∷
    (one ∷ D 196 ∷ D 197 ∷ D 198 ∷ D 199 ∷ D 200 ∷ D 201 ∷ D 202 ∷ []) ∷
    (D 203 ∷ D 204 ∷ D 205 ∷ D 206 ∷ D 207 ∷ D 208 ∷ D 209 ∷ D 210 ∷ []) ∷
    (one ∷ D 211 ∷ D 212 ∷ D 213 ∷ D 214 ∷ D 215 ∷ D 216 ∷ D 217 ∷ []) ∷
    (D 218 ∷ D 219 ∷ D 220 ∷ D 221 ∷ D 222 ∷ D 223 ∷ D 224 ∷ D 225 ∷ []) ∷
    (one ∷ D 226 ∷ D 227 ∷ D 228 ∷ D 229 ∷ D 230 ∷ D 231 ∷ D 232 ∷ []) ∷
    (D 233 ∷ D 234 ∷ D 235 ∷ D 236 ∷ D 237 ∷ D 238 ∷ D 239 ∷ D 240 ∷ []) ∷
    (one ∷ D 241 ∷ D 242 ∷ D 243 ∷ D 244 ∷ D 245 ∷ D 246 ∷ D 247 ∷ []) ∷
    (D 248 ∷ D 249 ∷ D 250 ∷ D 251 ∷ D 252 ∷ D 253 ∷ D 254 ∷ D 255 ∷ []) ∷
    (one ∷ D 256 ∷ D 257 ∷ D 258 ∷ D 259 ∷ D 260 ∷ C 16 ∷ C 17 ∷ []) ∷
    (C 18 ∷ C 19 ∷ C 20 ∷ C 21 ∷ T 1 ∷ T 2 ∷ T 3 ∷ T 4 ∷ []) ∷ []

-- what stands in bit i + 1 of octet o
abbrev pub stands_in : ℕ → ℕ → Place
stands_in o i = get_or (get_or printed o []) i sync

-- the frame's 320 bits, from 0: the k-th is bit k % 8 + 1 of octet k / 8
unfoldable pub place_at : ℕ → Place
place_at k = stands_in (k / 8) (k % 8)

-- ---- writing: C1 to C21 are c; D1 to D260 are d put back by table 2 (000); 001, 3.5.1.1.3: T1 to T4 are 1
unfoldable pub data_bits : List ℕ → List ℕ
data_bits d = put_back importance d

unfoldable pub written_at : List ℕ → List ℕ → Place → ℕ
written_at c w sync = 0
written_at c w one = 1
written_at c w (C x) = from1 c x
written_at c w (D x) = from1 w x
written_at c w (T x) = 1

unfoldable pub frame_bits : List ℕ → List ℕ → List ℕ
frame_bits c d = tab 320 (λ k. written_at c (data_bits d) (place_at k))

unfoldable pub frame : List ℕ → List ℕ → List ℕ
frame c d = packed (frame_bits c d)

-- ---- reading, of the frame's 320 bits f
abbrev pub is_c : ℕ → Place → Bool
is_c x sync = false
is_c x one = false
is_c x (C y) = eqb y x
is_c x (D y) = false
is_c x (T y) = false

abbrev pub is_d : ℕ → Place → Bool
is_d x sync = false
is_d x one = false
is_d x (C y) = false
is_d x (D y) = eqb y x
is_d x (T y) = false

-- the first of n places, from k on, of which `is` is true
unfoldable pub search : (Place → Bool) → ℕ → ℕ → ℕ
search is k zero = k
search is k (suc n) = pick (is (place_at k)) k (search is (suc k) n)

-- where Cx stands, and where Dx does
unfoldable pub where_c : ℕ → ℕ
where_c x = search (is_c x) 0 320

unfoldable pub where_d : ℕ → ℕ
where_d x = search (is_d x) 0 320

-- C1 to C21; and d, which is D1 to D260 in the order of table 2
unfoldable pub control_of : List ℕ → List ℕ
control_of f = tab 21 (λ i. get_or f (where_c (suc i)) 0)

unfoldable pub speech_of : List ℕ → List ℕ
speech_of f = fetched importance (tab 260 (λ i. get_or f (where_d (suc i)) 0))

-- ---- 18: is every sync bit 0 and every fixed bit 1? The other bits may be anything, T1 to T4 too
unfoldable pub right : Place → ℕ → Bool
right sync b = eqb b 0
right one b = eqb b 1
right (C x) b = true
right (D x) b = true
right (T x) b = true

unfoldable pub fixed_right : List ℕ → Bool
fixed_right f = all_below (λ k. right (place_at k) (get_or f k 0)) 320

-- ---- 19: 001, 3.5.1.1.1: C1 to C5 of full rate speech, uplink and downlink
abbrev pub uplink : List ℕ
uplink = 0 ∷ 0 ∷ 0 ∷ 1 ∷ 0 ∷ []

abbrev pub downlink : List ℕ
downlink = 1 ∷ 1 ∷ 1 ∷ 0 ∷ 0 ∷ []

unfoldable pub begins : List ℕ → List ℕ → Bool
begins c type = all_below (λ i. eqb (get_or c i 0) (get_or type i 0)) 5

unfoldable pub is_speech : List ℕ → Bool
is_speech c = pick (begins c uplink) true (begins c downlink)
