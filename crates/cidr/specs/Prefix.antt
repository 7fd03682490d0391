-- Rules 2.1 to 2.5 and 2.7: addresses, prefixes, keys, and what a prefix holds. A prefix is written as its key.
-- The rules say nothing of a number that is no key; the definitions then go by its network and its length all the same.
-- Assumes nothing.
use Rattle.std.specs.Prelude.{Bool, ◌&&◌, ℕ, ◌+◌, ◌-◌, ◌*◌, ◌/◌, ◌%◌, ◌^◌, leb, ltb, eqb}

-- Rule 2.1: how many addresses there are. An address is a number below it.
abbrev pub addresses : ℕ
addresses = 4294967296

-- Rule 2.1: the address a.b.c.d.
abbrev pub dotted : ℕ → ℕ → ℕ → ℕ → ℕ
dotted a b c d = ((a * 256 + b) * 256 + c) * 256 + d

-- Rule 2.7: the key of a network and a length, and the two read back from a key.
abbrev pub key_of : ℕ → ℕ → ℕ
key_of net len = net * 64 + len

abbrev pub network : ℕ → ℕ
network key = key / 64

abbrev pub length_of : ℕ → ℕ
length_of key = key % 64

-- Rule 2.3: how many addresses a prefix of this length holds.
unfoldable pub size : ℕ → ℕ
size len = 2 ^ (32 - len)

-- Rule 2.4: the end of a prefix is one past the last address that it holds. It may be 2^32.
abbrev pub end_of : ℕ → ℕ
end_of key = network key + size (length_of key)

-- Rule 2.2: the host bits of an address are those beyond the length. This is the number that they make.
unfoldable pub host_bits : ℕ → ℕ → ℕ
host_bits len a = a % size len

-- Rule 2.7: a number is a key if its length is at most 32, its network is an address, and the network has no host bit that is 1.
unfoldable pub is_prefix : ℕ → Bool
is_prefix key =
    leb (length_of key) 32 && (ltb (network key) addresses && eqb (host_bits (length_of key) (network key)) 0)

-- Rule 2.3: a prefix holds an address if the address becomes the prefix's network once its host bits are 0.
unfoldable pub holds : ℕ → ℕ → Bool
holds key a = eqb (a - host_bits (length_of key) a) (network key)

-- Rule 2.5: a prefix holds another one if its length isn't greater and it holds the other's network.
unfoldable pub covers : ℕ → ℕ → Bool
covers key other = leb (length_of key) (length_of other) && holds key (network other)
