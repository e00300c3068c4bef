-- Bounds by name. Each is a number itself, so that definitions compute with it.
use Rattle.std.specs.Prelude.{ℕ}

-- R1. The most bytes of run A and of run B, of run C, and of a BGP-LS run.
abbrev pub most_in_ab : ℕ
most_in_ab = 2048

abbrev pub most_in_c : ℕ
most_in_c = 1024

abbrev pub most_in_bgp_ls : ℕ
most_in_bgp_ls = 524288

-- K1. The most bytes of an extended administrative group in run A, whose lengths have one byte.
abbrev pub most_extended : ℕ
most_extended = 252

-- A3, B3. The most bytes of a mask that is read.
abbrev pub most_mask : ℕ
most_mask = 8

-- I7, R6. The numbers of standard applications: how many there are, and the last. A mask of 8 bytes has as many bits.
abbrev pub standard_numbers : ℕ
standard_numbers = 64

abbrev pub last_standard : ℕ
last_standard = 63

-- E12a, E12b. The same of user applications: user bits 32 to 63 are retired.
abbrev pub user_numbers : ℕ
user_numbers = 32

abbrev pub last_user : ℕ
last_user = 31

-- E12a. How many applications there are, and how many other than RSVP-TE.
abbrev pub applications : ℕ
applications = 96

abbrev pub other_applications : ℕ
other_applications = 95

-- The most bytes of the TLVs of one set in an export, whatever the protocol: 129 such sets with their headers are within a BGP-LS run.
abbrev pub most_in_set : ℕ
most_in_set = 4000

-- The most bytes of an IS-IS link's export, and of a value in it.
abbrev pub most_of_isis : ℕ
most_of_isis = 233588

abbrev pub longest_of_isis : ℕ
longest_of_isis = 2404

-- The middle of an export: the most bytes of a value, as no run of a link is longer; the most sources of SRLGs; and the most numbers that a source's words can tell.
abbrev pub most_bytes : ℕ
most_bytes = 4096

abbrev pub most_sources : ℕ
most_sources = 128

abbrev pub most_numbers : ℕ
most_numbers = 1024
