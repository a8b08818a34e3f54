-- What the proof of `print` uses.
mod Outcomes
