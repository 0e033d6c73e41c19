-- Lemmas. Whole: what a program prints is the listing of its whole input. Digits: a number in decimal digits.
mod Whole
mod Digits
