-- The tables of the documents. 02, M-103: the two of enhanced full rate, as 000 prints them; s and w count from 1.
use Rattle.std.specs.Prelude.{List, [], ◌∷◌, ◌++◌, ℕ, suc, ◌+◌, ◌-◌}
use Rattle.bits.specs.Bits.{tab}

-- 000, 3.1.1.1: the 65 most important bits, b(1) to b(65), row by row: 39 is s(39)
unfoldable pub important : List ℕ
important =
    39 ∷ 40 ∷ 41 ∷ 42 ∷ 43 ∷ 44 ∷ 48 ∷ 87 ∷ 45 ∷ 2 ∷
    3 ∷ 8 ∷ 10 ∷ 18 ∷ 19 ∷ 24 ∷ 46 ∷ 47 ∷ 142 ∷ 143 ∷
    144 ∷ 145 ∷ 146 ∷ 147 ∷ 92 ∷ 93 ∷ 195 ∷ 196 ∷ 98 ∷ 137 ∷
    148 ∷ 94 ∷ 197 ∷ 149 ∷ 150 ∷ 95 ∷ 198 ∷ 4 ∷ 5 ∷ 11 ∷
    12 ∷ 16 ∷ 9 ∷ 6 ∷ 7 ∷ 13 ∷ 17 ∷ 20 ∷ 96 ∷ 199 ∷
    1 ∷ 14 ∷ 15 ∷ 21 ∷ 25 ∷ 26 ∷ 28 ∷ 151 ∷ 201 ∷ 190 ∷
    240 ∷ 88 ∷ 138 ∷ 191 ∷ 241 ∷ []

-- A row of the table "Ordering of enhanced full rate speech parameters for the channel encoder", which the text calls by another number (02): one
-- bit of w, or several from the first to the last. Three entries carry a wrong letter there, n48, s199 and s125: the numbers are right.
pub record Row : Type 0 where
  pub first : ℕ
  pub last : ℕ

abbrev pub w : ℕ → Row
w k = record { first = k; last = k }

abbrev pub ws : ℕ → ℕ → Row
ws first last = record { first = first; last = last }

-- class 1a: 50 bits. A line has rows of the same parameters
unfoldable pub class1a : List Row
class1a =
    ws 39 44 ∷ ws 146 151 ∷ ws 94 95 ∷ ws 201 202 ∷
    w 48 ∷ w 89 ∷ w 100 ∷ w 141 ∷
    w 45 ∷ w 152 ∷ w 96 ∷ w 203 ∷
    ws 2 3 ∷ w 8 ∷ w 10 ∷ ws 18 19 ∷ w 24 ∷
    ws 46 47 ∷ ws 153 154 ∷ w 97 ∷ w 204 ∷
    ws 4 5 ∷ ws 11 12 ∷ w 16 ∷ w 9 ∷ ws 6 7 ∷ w 13 ∷ w 17 ∷ w 20 ∷
    w 98 ∷ w 205 ∷ []

-- class 1b: 132 bits
unfoldable pub class1b : List Row
class1b =
    w 1 ∷ ws 14 15 ∷ w 21 ∷ ws 25 26 ∷ w 28 ∷
    w 155 ∷ w 207 ∷ w 196 ∷ w 248 ∷ w 90 ∷ w 142 ∷ w 197 ∷ w 249 ∷
    ws 253 260 ∷
    w 49 ∷ w 101 ∷ w 156 ∷ w 208 ∷
    ws 22 23 ∷ w 27 ∷ w 29 ∷
    w 52 ∷ w 56 ∷ w 60 ∷ w 64 ∷ w 68 ∷
    w 104 ∷ w 108 ∷ w 112 ∷ w 116 ∷ w 120 ∷
    w 159 ∷ w 163 ∷ w 167 ∷ w 171 ∷ w 175 ∷
    w 211 ∷ w 215 ∷ w 219 ∷ w 223 ∷ w 227 ∷
    w 91 ∷ w 143 ∷ w 198 ∷ w 250 ∷
    w 50 ∷ w 102 ∷ w 157 ∷ w 209 ∷
    ws 30 32 ∷ ws 33 36 ∷
    w 99 ∷ w 206 ∷
    w 53 ∷ w 57 ∷ w 61 ∷ w 65 ∷ w 69 ∷
    w 105 ∷ w 109 ∷ w 113 ∷ w 117 ∷ w 121 ∷
    w 160 ∷ w 164 ∷ w 168 ∷ w 172 ∷ w 176 ∷
    w 212 ∷ w 216 ∷ w 220 ∷ w 224 ∷ w 228 ∷
    w 54 ∷ w 58 ∷ w 62 ∷ w 66 ∷
    w 106 ∷ w 110 ∷ w 114 ∷ w 118 ∷
    w 161 ∷ w 165 ∷ w 169 ∷ w 173 ∷
    w 213 ∷ w 221 ∷ w 225 ∷
    w 92 ∷ w 144 ∷ w 199 ∷ w 251 ∷
    w 51 ∷ w 103 ∷ w 158 ∷ w 210 ∷
    w 93 ∷ w 145 ∷ w 200 ∷ w 252 ∷
    w 55 ∷ w 59 ∷ w 63 ∷ w 67 ∷
    w 107 ∷ w 111 ∷ w 115 ∷ w 119 ∷
    w 162 ∷ w 166 ∷ w 170 ∷ w 174 ∷
    w 214 ∷ w 222 ∷ w 226 ∷
    ws 37 38 ∷ []

-- class 2: 78 bits
unfoldable pub class2 : List Row
class2 =
    w 70 ∷ ws 72 73 ∷
    w 122 ∷ ws 124 125 ∷
    w 177 ∷ ws 179 180 ∷
    w 229 ∷ ws 231 232 ∷
    ws 217 218 ∷
    w 71 ∷ w 123 ∷ w 178 ∷ w 230 ∷
    w 74 ∷ w 77 ∷ w 80 ∷ w 83 ∷ w 86 ∷
    w 126 ∷ w 129 ∷ w 132 ∷ w 135 ∷ w 138 ∷
    w 181 ∷ w 184 ∷ w 187 ∷ w 190 ∷ w 193 ∷
    w 233 ∷ w 236 ∷ w 239 ∷ w 242 ∷ w 245 ∷
    w 75 ∷ w 78 ∷ w 81 ∷ w 84 ∷ w 87 ∷
    w 127 ∷ w 130 ∷ w 133 ∷ w 136 ∷ w 139 ∷
    w 182 ∷ w 185 ∷ w 188 ∷ w 191 ∷ w 194 ∷
    w 234 ∷ w 237 ∷ w 240 ∷ w 243 ∷ w 246 ∷
    w 76 ∷ w 79 ∷ w 82 ∷ w 85 ∷ w 88 ∷
    w 128 ∷ w 131 ∷ w 134 ∷ w 137 ∷ w 140 ∷
    w 183 ∷ w 186 ∷ w 189 ∷ w 192 ∷ w 195 ∷
    w 235 ∷ w 238 ∷ w 241 ∷ w 244 ∷ w 247 ∷ []

-- the numbers of the rows, one after another
unfoldable pub spread : List Row → List ℕ
spread [] = []
spread (r ∷ rows) = tab (suc (r.last - r.first)) (λ i. r.first + i) ++ spread rows

-- d(0) is w(39), d(1) is w(40), .. , d(259) is w(247)
unfoldable pub ordering : List ℕ
ordering = spread (class1a ++ (class1b ++ class2))
